-- How long fields are, and the definitions at the ways that a reader goes.
use Rattle.std.proofs.Common.{◌≡◌, ℕ, ◌-◌, ◌<◌, ◌≤◌, List, length, drop, take, None, Ok, Err, Result, refl, ap, ◌∙◌, sym, subst, arith, length-drop, le-leb, eq-eqb}
use Rattle.std.proofs.lemmas.Bool.{cond-true, cond-false, lt-leb}
use Rattle.std.proofs.lemmas.List.{take_all}
use Rattle.messages.specs.declared.event.Event.{Event}
use Rattle.messages.specs.declared.event.Event.TheVariants.{Figures, Trade, Action, Close, Reconcile, Opening}
use Rattle.messages.specs.declared.fault.ReaderFault.{ReaderFault}
use Rattle.messages.specs.declared.fault.ReaderFault.TheVariants.{LengthWrong, ValueTruncated}
use Rattle.messages.specs.declared.tag.Tag.{Tag}
use Rattle.messages.specs.Tag.{value_length}
use Rattle.messages.specs.Field.{tag, size}
use Rattle.messages.specs.Decode.{event_of, valued, field, some, decode}
use Rattle.messages.specs.Encode.{value, encode, Whole}
use Rattle.messages.proofs.Numbers.{spread}

abbrev pub Answer : Type 0
Answer = Result Event ReaderFault

-- a field has a tag and a length at least
pub size_least : (event : Event) → 3 ≤ size event
size_least event = omega arith

pub value_size : (event : Event) → Whole event → length (value event) ≡ value_length (tag event)
value_size (Figures user input output nomination) w = refl
value_size (Trade seller buyer quantity) w = refl
value_size (Action user kind locational quantity price) w = refl
value_size Close w = refl
value_size (Reconcile user day quantity) w = refl
value_size (Opening users default_price averages) w =
    subst (λ l. length (value (Opening users default_price l)) ≡ 33) (sym (spread averages (record { 0 = 0 }) 7 w.2)) refl

pub encode_size : (event : Event) → Whole event → length (encode event) ≡ size event
encode_size event w = omega (arith, value_size event w)

-- the length is the tag's, and as many bytes are there
pub valued_at : (tag : Tag) (bs : List ℕ) → value_length tag ≤ length bs → valued tag (value_length tag) bs ≡ event_of tag (take (value_length tag) bs)
valued_at tag bs h =
    cond-true _ _ (Err LengthWrong) (eq-eqb (value_length tag) (value_length tag) refl) ∙ cond-true _ _ (Err ValueTruncated) (le-leb _ _ h)

-- `&s[i..]`
pub to_end : (i : ℕ) (s : List ℕ) → take (length s - i) (drop i s) ≡ drop i s
to_end i s = take_all (length s - i) (drop i s) (omega (arith, length-drop i s))

module _ (place : ℕ) (bytes : List ℕ) where
  -- the place is before the end
  pub decode_within : place < length bytes → decode place bytes ≡ some (field place (drop place bytes))
  decode_within h = cond-false _ _ _ (lt-leb (length bytes) place h)

  -- the place is at the end
  pub decode_end : length bytes ≤ place → decode place bytes ≡ Ok None
  decode_end h = cond-true _ _ _ (le-leb (length bytes) place h)

  pub decode_at : (r : Answer) → place < length bytes → r ≡ field place (take (length bytes - place) (drop place bytes)) → some r ≡ decode place bytes
  decode_at r h e = ap some (e ∙ ap (field place) (to_end place bytes)) ∙ sym (decode_within h)
