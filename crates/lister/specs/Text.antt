-- How a line is printed: words and numbers with a space between.
use Rattle.std.specs.Prelude.{ℕ, List, ◌++◌, codes, decimal}
use Rattle.messages.specs.Faults.{number}
use Rattle.messages.specs.Text.{event_text}
use Rattle.lister.specs.declared.line.Line.{Line}
use Rattle.lister.specs.declared.line.Line.TheVariants.{Read, Refused, Total}

abbrev pub line_text : Line → List ℕ
line_text (Read place event) = decimal place ++ (codes " " ++ event_text event)
line_text (Refused fault place) = codes "refused " ++ (decimal (number fault) ++ (codes " at " ++ decimal place))
line_text (Total events bytes) = decimal events ++ (codes " events " ++ (decimal bytes ++ codes " bytes"))
