use Rattle.std.proofs.Common.{◌≡◌, ℕ, ◌<◌, get_or, sym, subst, rules}
use Rattle.lister.specs.Lines.{coming_at, listed}
use Rattle.lister.specs.Tells.{Tells}
use Rattle.lister.proofs.Telling.{listed_tells}
use Rattle.lister.proofs.listing.Listing.new.Goals as goal

pub returns-clause-tells : goal.returns-clause-tells
returns-clause-tells c =
    let bytes = c.args.bytes.now in
    let fit : (i : ℕ) → get_or bytes i 0 < 256 = λ i. search rules in
    let lines : coming_at c.first_stage.result c.new.result.bytes.now 0 c.new.result.place ≡ listed bytes = search rules in
    λ h. subst (Tells bytes 0 0) (sym lines) (listed_tells bytes fit h)
