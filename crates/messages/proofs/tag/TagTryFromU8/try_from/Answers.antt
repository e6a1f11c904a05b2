use Rattle.std.proofs.Common.{eqb, rules, tests}
use Rattle.std.proofs.lemmas.Iterator.{YieldsList-from_slice}
use Rattle.std.proofs.lemmas.Iterator.Search.{find_from_yields_List}
use Rattle.messages.specs.Tag.{byte, tags}
use Rattle.messages.proofs.tag.TagTryFromU8.try_from.Goals as goal

pub returns : goal.returns
returns c =
    let found = find_from_yields_List (λ tag. eqb (byte tag) c.args.byte) _ _ c.find.result c.find.ensures.ran (YieldsList-from_slice tags cc) (λ x b q k. search (rules, tests)) in
    search rules
