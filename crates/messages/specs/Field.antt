-- An event's field: its tag, how long it is, and where it may stand.
use Rattle.std.specs.Prelude.{ℕ, ◌+◌, Bool, true, false, Ok, Err, Result, ◌==◌, if◌then◌else◌}
use Rattle.messages.specs.declared.event.ActionKind.{ActionKind}
use Rattle.messages.specs.declared.event.ActionKind.TheVariants.{Buy, Sell}
use Rattle.messages.specs.declared.event.Event.{Event}
use Rattle.messages.specs.declared.event.Event.TheVariants.{Figures, Trade, Action, Close, Reconcile, Opening}
use Rattle.messages.specs.declared.fault.ReaderFault.{ReaderFault}
use Rattle.messages.specs.declared.fault.ReaderFault.TheVariants.{MarkUnknown}
use Rattle.messages.specs.declared.tag.Tag.{Tag}
use Rattle.messages.specs.declared.tag.Tag.TheVariants.{Figures as FiguresTag, Trade as TradeTag, Action as ActionTag, Close as CloseTag, Reconcile as ReconcileTag, Opening as OpeningTag}
use Rattle.messages.specs.Tag.{value_length, may_stand}

abbrev pub tag : Event → Tag
tag (Figures user input output nomination) = FiguresTag
tag (Trade seller buyer quantity) = TradeTag
tag (Action user kind locational quantity price) = ActionTag
tag Close = CloseTag
tag (Reconcile user day quantity) = ReconcileTag
tag (Opening users default_price averages) = OpeningTag

-- how many bytes the field has, its tag and its length among them
abbrev pub size : Event → ℕ
size event = 3 + value_length (tag event)

-- whether the event may stand at a place
abbrev pub stands_at : Event → ℕ → Bool
stands_at event place = may_stand (tag event) place

-- the marks of an action, 0 or 1 each
abbrev pub kind_byte : ActionKind → ℕ
kind_byte Buy = 0
kind_byte Sell = 1

abbrev pub flag_byte : Bool → ℕ
flag_byte false = 0
flag_byte true = 1

-- what a mark says: the first for 0, the second for 1
abbrev pub marked : {A : Type 0} → A → A → ℕ → Result A ReaderFault
marked zero one mark = if mark == 0 then Ok zero else (if mark == 1 then Ok one else Err MarkUnknown)

abbrev pub kind_of : ℕ → Result ActionKind ReaderFault
kind_of = marked Buy Sell

abbrev pub flag_of : ℕ → Result Bool ReaderFault
flag_of = marked false true
