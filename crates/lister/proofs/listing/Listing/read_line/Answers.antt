use Rattle.std.proofs.Common.{◌≡◌, None, Ok, sym, ◌∙◌, rules}
use Rattle.lister.proofs.Enough.{left_by, end_at}
use Rattle.lister.proofs.listing.Listing.read_line.Goals as goal

pub returns-in-Ok-Some : goal.returns-in-Ok-Some
returns-in-Ok-Some c =
    let l = c.args.self.now in
    let lines = left_by l.reader.bytes.now l.events l.reader.place c.next.result c.next.ensures.value in
    search rules

pub returns-in-Ok-None : goal.returns-in-Ok-None
returns-in-Ok-None c =
    let l = c.args.self.now in
    let lines = left_by l.reader.bytes.now l.events l.reader.place c.next.result c.next.ensures.value in
    let is : c.next.result ≡ Ok None = search rules in
    let end = end_at l.reader.place l.reader.bytes.now l.reader.within (sym is ∙ c.next.ensures.value) in
    search rules

pub returns-in-Err : goal.returns-in-Err
returns-in-Err c =
    let l = c.args.self.now in
    let lines = left_by l.reader.bytes.now l.events l.reader.place c.next.result c.next.ensures.value in
    search rules
