-- What a reader accepts is the message of its event.
use Rattle.std.proofs.Common.{◌≡◌, ℕ, suc, false, ◌^◌, ◌<◌, ◌≤◌, true, eqb, leb, List, [], ◌∷◌, length, get_or, take, drop, IfOk, Ok, Err, Result, sym, refl, ap, ◌∙◌, arith, length-take-le, eqb-true, leb-true}
use Rattle.std.specs.Int.{w32, cast_signed, cast_unsigned}
use Rattle.std.specs.List.{find}
use Rattle.std.specs.Option.{ok_or}
use Rattle.std.proofs.lemmas.Bool.{cond_both}
use Rattle.std.proofs.lemmas.Int.{of_z-to_z}
use Rattle.std.proofs.lemmas.List.Elements.{All-map}
use Rattle.std.proofs.lemmas.Result.{IfOk-weaker}
use mir.Facts.{sfits_to_z}
use Rattle.amounts.specs.declared.wire.WirePrice.{WirePrice}
use Rattle.messages.specs.declared.event.ActionKind.TheVariants.{Buy, Sell}
use Rattle.messages.specs.declared.event.Event.{Event}
use Rattle.messages.specs.declared.fault.ReaderFault.{ReaderFault}
use Rattle.messages.specs.declared.fault.ReaderFault.TheVariants.{TagUnknown}
use Rattle.messages.specs.declared.tag.Tag.{Tag}
use Rattle.messages.specs.declared.tag.Tag.TheVariants.{Figures as FiguresTag, Trade as TradeTag, Action as ActionTag, Close as CloseTag, Reconcile as ReconcileTag, Opening as OpeningTag}
use Rattle.messages.specs.Steps.{◌>>=◌}
use Rattle.messages.specs.Tag.{byte, value_length, may_stand, tags, tag_of, tag_at}
use Rattle.messages.specs.Field.{tag, size, kind_byte, flag_byte, marked, kind_of, flag_of}
use Rattle.messages.specs.Decode.{pair, quad, price, event_of, valued, field}
use Rattle.messages.specs.Encode.{pair_of, quad_of, value, encode, Whole}
use Rattle.messages.specs.Message.{Message}
use Rattle.messages.proofs.Numbers.{Bytes, quad_at, pair_at, quad_fits, pair_fits, spread, take_bytes, drop_bytes}

-- where a step came out, and so what follows it
by_step : {A B : Type 0} (P : A → Type 0) (Q : B → Type 0) (r : Result A ReaderFault) (next : A → Result B ReaderFault) → IfOk r P → ((x : A) → P x → IfOk (next x) Q) → IfOk (r >>= next) Q
by_step P Q (Ok x) next p q = q x p
by_step P Q (Err fault) next p q = tt

tag_found : (n : ℕ) (ts : List Tag) → IfOk (ok_or (find (λ t. eqb (byte t) n) ts) TagUnknown) (λ t. byte t ≡ n)
tag_found n [] = tt
tag_found n (t ∷ ts) =
    cond_both (eqb (byte t) n) _ _ (λ o. IfOk (ok_or o TagUnknown) (λ t. byte t ≡ n)) (λ e. eqb-true _ _ e) (λ _. tag_found n ts)

Stands : ℕ → ℕ → Tag → Type 0
Stands place n t = (byte t ≡ n) × (may_stand t place ≡ true)

tag_back : (place n : ℕ) → IfOk (tag_at place n) (Stands place n)
unfolding Stands
tag_back place n =
    by_step _ _ (tag_of n) _ (tag_found n tags) (λ t is. cond_both (may_stand t place) _ _ (λ (r : Result Tag ReaderFault). IfOk r (Stands place n)) (λ known. (is, known)) (λ _. tt))

marked_back : {A : Type 0} (byte_of : A → ℕ) (x y : A) (n : ℕ) → byte_of x ≡ 0 → byte_of y ≡ 1 → IfOk (marked x y n) (λ z. byte_of z ≡ n)
marked_back {A} byte_of x y n p q =
    let Says : Result A ReaderFault → Type 0 = λ r. IfOk r (λ z. byte_of z ≡ n) in
    cond_both (eqb n 0) _ _ Says (λ e. p ∙ sym (eqb-true _ _ e)) (λ _. cond_both (eqb n 1) _ _ Says (λ e. q ∙ sym (eqb-true _ _ e)) (λ _. tt))

-- the event has the tag, and its value is the bytes
record Says (t : Tag) (v : List ℕ) (event : Event) : Type 0 where
  whole : Whole event
  tagged : tag event ≡ t
  same : value event ≡ v

module _ (v : List ℕ) (b : Bytes v) where
  is_action : length v ≡ 11 → IfOk (event_of ActionTag v) (Says ActionTag v)
  is_action long =
      by_step _ _ (kind_of (get_or v 1 0)) _ (marked_back kind_byte Buy Sell (get_or v 1 0) refl refl)
      (λ kind k. by_step _ _ (flag_of (get_or v 2 0)) _ (marked_back flag_byte false true (get_or v 2 0) refl refl)
      (λ flag f. let numbers : quad_of (quad v 3) (quad_of (quad v 7) []) ≡ get_or v 3 0 ∷ get_or v 4 0 ∷ get_or v 5 0 ∷ get_or v 6 0 ∷ get_or v 7 0 ∷ get_or v 8 0 ∷ get_or v 9 0 ∷ get_or v 10 0 ∷ [] = quad_at v b 3 (quad_at v b 7 refl) in
      record {
        whole = (b 0, quad_fits v b 3, quad_fits v b 7);
        tagged = refl;
        same = (λ i. get_or v 0 0 ∷ k i ∷ f i ∷ numbers i) ∙ sym (spread v 0 11 long);
      }))

  says : (t : Tag) → length v ≡ value_length t → IfOk (event_of t v) (Says t v)
  says FiguresTag long =
      record {
        whole = (b 0, quad_fits v b 1, quad_fits v b 5, quad_fits v b 9);
        tagged = refl;
        same = ap (λ l. get_or v 0 0 ∷ l) (quad_at v b 1 (quad_at v b 5 (quad_at v b 9 refl))) ∙ sym (spread v 0 13 long);
      }
  says TradeTag long =
      record {
        whole = (b 0, b 1, quad_fits v b 2);
        tagged = refl;
        same = ap (λ l. get_or v 0 0 ∷ get_or v 1 0 ∷ l) (quad_at v b 2 refl) ∙ sym (spread v 0 6 long);
      }
  says ActionTag long = is_action long
  says CloseTag long = record { whole = tt; tagged = refl; same = sym (spread v 0 0 long) }
  says ReconcileTag long =
      let back : cast_unsigned w32 (cast_signed w32 (quad v 3)) ≡ quad v 3 = of_z-to_z w32 (quad v 3) (quad_fits v b 3) in
      record {
        whole = (b 0, pair_fits v b 1, sfits_to_z (record { fits = quad_fits v b 3 }));
        tagged = refl;
        same = ap (λ l. get_or v 0 0 ∷ l) (pair_at v b 1 (ap (λ n. quad_of n []) back ∙ quad_at v b 3 refl)) ∙ sym (spread v 0 7 long);
      }
  says OpeningTag long =
      record {
        whole = (b 0, quad_fits v b 1, refl, All-map (λ (p : WirePrice). p.0 < 2 ^ 32) (price v) (5 ∷ 9 ∷ 13 ∷ 17 ∷ 21 ∷ 25 ∷ 29 ∷ []) (λ k d h. quad_fits v b (get_or (5 ∷ 9 ∷ 13 ∷ 17 ∷ 21 ∷ 25 ∷ 29 ∷ []) k d)));
        tagged = refl;
        same = ap (λ l. get_or v 0 0 ∷ l) (quad_at v b 1 (quad_at v b 5 (quad_at v b 9 (quad_at v b 13 (quad_at v b 17 (quad_at v b 21 (quad_at v b 25 (quad_at v b 29 refl)))))))) ∙ sym (spread v 0 33 long);
      }

heads : (bs : List ℕ) → 3 ≤ length bs → bs ≡ get_or bs 0 0 ∷ get_or bs 1 0 ∷ get_or bs 2 0 ∷ drop 3 bs
heads [] h = absurd (omega arith)
heads (x ∷ []) h = absurd (omega arith)
heads (x ∷ y ∷ []) h = absurd (omega arith)
heads (x ∷ y ∷ z ∷ bs) h = refl

module _ (place : ℕ) (bs : List ℕ) (b : Bytes bs) (some : 3 ≤ length bs) where
  -- a header and a value that are the event's
  message : (t : Tag) → Stands place (get_or bs 0 0) t → pair bs 1 ≡ value_length t → (event : Event) → Says t (take (value_length t) (drop 3 bs)) event → Message place bs event
  unfolding Stands
  message t known long event is =
      let v : List ℕ = take (value_length t) (drop 3 bs) in
      let header : pair_of (value_length t) v ≡ get_or bs 1 0 ∷ get_or bs 2 0 ∷ v = ap (λ n. pair_of n v) (sym long) ∙ pair_at bs b 1 refl in
      let long_as : size event ≡ suc (suc (suc (value_length t))) = omega (arith, ap value_length is.tagged) in
      let written : encode event ≡ byte t ∷ pair_of (value_length t) v = λ i. byte (is.tagged i) ∷ pair_of (value_length (is.tagged i)) (is.same i) in
      record {
        whole = is.whole;
        known = ap (λ t. may_stand t place) is.tagged ∙ known.1;
        same = ap (λ k. take k bs) long_as ∙ ap (take (suc (suc (suc (value_length t))))) (heads bs some) ∙ sym (written ∙ (λ i. known.0 i ∷ header i));
      }

  value_message : (t : Tag) → Stands place (get_or bs 0 0) t → IfOk (valued t (pair bs 1) (drop 3 bs)) (Message place bs)
  value_message t known =
      cond_both (eqb (pair bs 1) (value_length t)) _ _ (λ r. IfOk r (Message place bs))
      (λ long. cond_both (leb (value_length t) (length (drop 3 bs))) _ _ (λ r. IfOk r (Message place bs))
      (λ fits. IfOk-weaker _ _ _ (message t known (eqb-true _ _ long)) (says (take (value_length t) (drop 3 bs)) (take_bytes (value_length t) (drop 3 bs) (drop_bytes 3 bs b)) t (length-take-le (value_length t) (drop 3 bs) (leb-true _ _ fits))))
      (λ _. tt))
      (λ _. tt)

-- what is accepted is the message of the event
pub field_message : (place : ℕ) (bs : List ℕ) → Bytes bs → IfOk (field place bs) (Message place bs)
field_message place bs b =
    cond_both (leb 3 (length bs)) _ _ (λ r. IfOk r (Message place bs))
    (λ some. by_step _ _ (tag_at place (get_or bs 0 0)) _ (tag_back place (get_or bs 0 0)) (value_message place bs b (leb-true _ _ some)))
    (λ _. tt)
