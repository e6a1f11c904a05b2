-- How an event is printed: words and numbers with a space between.
use Rattle.std.specs.Prelude.{ℕ, Bool, true, false, List, ◌++◌, slice_index_or, codes, decimal}
use Rattle.std.specs.Fmt.{signed_decimal}
use Rattle.amounts.specs.declared.wire.WirePrice.{WirePrice}
use Rattle.messages.specs.declared.event.ActionKind.{ActionKind}
use Rattle.messages.specs.declared.event.ActionKind.TheVariants.{Buy, Sell}
use Rattle.messages.specs.declared.event.Event.{Event}
use Rattle.messages.specs.declared.event.Event.TheVariants.{Figures, Trade, Action, Close, Reconcile, Opening}

abbrev pub kind_text : ActionKind → List ℕ
kind_text Buy = codes "buy"
kind_text Sell = codes "sell"

abbrev pub yes_no_text : Bool → List ℕ
yes_no_text true = codes "yes"
yes_no_text false = codes "no"

-- each of seven averages under its number
abbrev pub average_at : List WirePrice → ℕ → List ℕ
average_at averages i = decimal (slice_index_or averages i (record { 0 = 0 })).0

abbrev pub averages_text : List WirePrice → List ℕ
averages_text averages =
    codes " average1 " ++ (average_at averages 0 ++ (codes " average2 " ++ (average_at averages 1 ++ (codes " average3 " ++ (average_at averages 2 ++ (codes " average4 " ++ (average_at averages 3 ++ (codes " average5 " ++ (average_at averages 4 ++ (codes " average6 " ++ (average_at averages 5 ++ (codes " average7 " ++ average_at averages 6))))))))))))

abbrev pub event_text : Event → List ℕ
event_text (Figures user input output nomination) =
    codes "figures user " ++ (decimal user ++ (codes " input " ++ (decimal input.0 ++ (codes " output " ++ (decimal output.0 ++ (codes " nomination " ++ decimal nomination.0))))))
event_text (Trade seller buyer quantity) =
    codes "trade seller " ++ (decimal seller ++ (codes " buyer " ++ (decimal buyer ++ (codes " quantity " ++ decimal quantity.0))))
event_text (Action user kind locational quantity price) =
    codes "action user " ++ (decimal user ++ (codes " kind " ++ (kind_text kind ++ (codes " locational " ++ (yes_no_text locational ++ (codes " quantity " ++ (decimal quantity.0 ++ (codes " price " ++ decimal price.0))))))))
event_text Close = codes "close"
event_text (Reconcile user day quantity) =
    codes "reconcile user " ++ (decimal user ++ (codes " day " ++ (decimal day ++ (codes " quantity " ++ signed_decimal quantity.0))))
event_text (Opening users default_price averages) =
    codes "opening users " ++ (decimal users ++ (codes " default " ++ (decimal default_price.0 ++ averages_text averages)))
