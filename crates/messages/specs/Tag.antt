-- The tags of fields.
use Rattle.std.specs.Prelude.{ℕ, Bool, not, List, [], ◌∷◌, Ok, Err, Result, ◌==◌, if◌then◌else◌}
use Rattle.std.specs.List.{find}
use Rattle.std.specs.Option.{ok_or}
use Rattle.messages.specs.declared.fault.ReaderFault.{ReaderFault}
use Rattle.messages.specs.declared.fault.ReaderFault.TheVariants.{TagUnknown}
use Rattle.messages.specs.declared.tag.Tag.{Tag}
use Rattle.messages.specs.declared.tag.Tag.TheVariants.{Figures, Trade, Action, Close, Reconcile, Opening}
use Rattle.messages.specs.Steps.{◌>>=◌}

abbrev pub byte : Tag → ℕ
byte Figures = 0x01
byte Trade = 0x02
byte Action = 0x03
byte Close = 0x04
byte Reconcile = 0x05
byte Opening = 0x10

-- how many bytes the value has
abbrev pub value_length : Tag → ℕ
value_length Figures = 13
value_length Trade = 6
value_length Action = 11
value_length Close = 0
value_length Reconcile = 7
value_length Opening = 33

-- an opening stands at place 0, any other field elsewhere
abbrev pub may_stand : Tag → ℕ → Bool
may_stand Figures place = not (place == 0)
may_stand Trade place = not (place == 0)
may_stand Action place = not (place == 0)
may_stand Close place = not (place == 0)
may_stand Reconcile place = not (place == 0)
may_stand Opening place = place == 0

abbrev pub tags : List Tag
tags = Figures ∷ Trade ∷ Action ∷ Close ∷ Reconcile ∷ Opening ∷ []

-- the tag of a number
abbrev pub tag_of : ℕ → Result Tag ReaderFault
tag_of n = ok_or (find (λ tag. byte tag == n) tags) TagUnknown

-- the tag that a byte at a place is
abbrev pub tag_at : ℕ → ℕ → Result Tag ReaderFault
tag_at place n = do
  tag ← tag_of n
  if may_stand tag place then Ok tag else Err TagUnknown
