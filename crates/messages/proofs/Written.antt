-- What was written is the message of its event, and so is read as the event.
use Rattle.std.proofs.Common.{◌≡◌, ℕ, ◌+◌, ◌*◌, ◌<◌, ◌≤◌, true, cond, List, [], ◌∷◌, ◌++◌, append_assoc, length, get_or, take, drop, is_ok, IfOk, Some, Ok, Err, Result, sym, refl, ap, ◌∙◌, arith, length-append, drop-drop, length-take-le, take_at, drop_at}
use Rattle.std.proofs.lemmas.Bool.Decides.{nat_tests}
use Rattle.std.proofs.lemmas.Grind.{flat_map-append}
use Rattle.std.proofs.lemmas.List.{take_more}
use Rattle.messages.specs.declared.event.Event.{Event}
use Rattle.messages.specs.declared.fault.ReaderFault.{ReaderFault}
use Rattle.messages.specs.Decode.{decode}
use Rattle.messages.specs.Encode.{quad_of, quads_of, encode, Whole}
use Rattle.messages.specs.Field.{size, stands_at}
use Rattle.messages.specs.Message.{Message}
use Rattle.messages.specs.Write.{put, fitted}
use Rattle.messages.proofs.RoundTrip.{message_reads}
use Rattle.messages.proofs.Fields.{encode_size}

module _ (event : Event) (buffer : List ℕ) (place : ℕ) where
  put_message : Whole event → stands_at event place ≡ true → place + size event ≤ length buffer → Message place (drop place (put buffer place (encode event))) event
  put_message w p fits =
      let field : List ℕ = encode event in
      let more : List ℕ = drop (place + length field) buffer in
      let front : length (take place buffer) ≡ place = length-take-le place buffer (omega arith) in
      let at : drop place (put buffer place field) ≡ field ++ more = drop_at (take place buffer) (field ++ more) place front in
      record { whole = w; known = p; same = ap (take (size event)) at ∙ take_at field more (size event) (encode_size event w) }

-- one run of bytes put after another
pub put_put : (buffer : List ℕ) (place : ℕ) (xs ys : List ℕ) → place ≤ length buffer → put (put buffer place xs) (place + length xs) ys ≡ put buffer place (xs ++ ys)
put_put buffer place xs ys h =
    let front : List ℕ = take place buffer in
    let rest : List ℕ = drop (place + length xs) buffer in
    let parts : put buffer place xs ≡ (front ++ xs) ++ rest = sym (append_assoc front xs rest) in
    let long : length (front ++ xs) ≡ place + length xs = omega (arith, length-append front xs, length-take-le place buffer h) in
    let head : take (place + length xs) (put buffer place xs) ≡ front ++ xs = ap (take (place + length xs)) parts ∙ take_at (front ++ xs) rest (place + length xs) long in
    let tail : drop (place + length xs + length ys) (put buffer place xs) ≡ drop (place + length (xs ++ ys)) buffer =
    ap (λ l. drop (place + length xs + length ys) l) parts
    ∙ sym (drop-drop (length ys) (place + length xs) ((front ++ xs) ++ rest))
    ∙ ap (λ l. drop (length ys) l) (drop_at (front ++ xs) rest (place + length xs) long)
    ∙ drop-drop (length ys) (place + length xs) buffer
    ∙ ap (λ n. drop n buffer) (omega (arith, length-append xs ys)) in
    (λ i. head i ++ (ys ++ tail i))
    ∙ append_assoc front xs (ys ++ drop (place + length (xs ++ ys)) buffer)
    ∙ ap (λ l. front ++ l) (sym (append_assoc xs ys (drop (place + length (xs ++ ys)) buffer)))

length_quads : (numbers : List ℕ) → length (quads_of numbers) ≡ 4 * length numbers
length_quads [] = refl
length_quads (n ∷ numbers) = omega (arith, length_quads numbers)

-- one number more
pub put_more : (buffer : List ℕ) (place i : ℕ) (numbers : List ℕ) → place ≤ length buffer → i < length numbers → put (put buffer place (quads_of (take i numbers))) (place + 4 * i) (quad_of (get_or numbers i 0) []) ≡ put buffer place (quads_of (take (i + 1) numbers))
put_more buffer place i numbers h within =
    let before : List ℕ = quads_of (take i numbers) in
    let n : ℕ = get_or numbers i 0 in
    let at : place + 4 * i ≡ place + length before = omega (arith, length_quads (take i numbers), length-take-le i numbers (omega arith)) in
    let more : before ++ quad_of n [] ≡ quads_of (take (i + 1) numbers) = sym (flat_map-append (λ n. quad_of n []) (take i numbers) (n ∷ [])) ∙ ap quads_of (sym (take_more numbers i 0 within)) in
    ap (λ a. put (put buffer place before) a (quad_of n [])) at ∙ put_put buffer place before (quad_of n []) h ∙ ap (put buffer place) more

fits_at : (long room place end : ℕ) → Ok end ≡ fitted long room place → place + long ≤ room
fits_at long room place end e = grind (arith, nat_tests)

pub reads_back : (event : Event) (buffer : List ℕ) (place : ℕ) (r : Result ℕ ReaderFault) (left : List ℕ) → Whole event → stands_at event place ≡ true → r ≡ fitted (size event) (length buffer) place → left ≡ cond (is_ok r) (put buffer place (encode event)) buffer → IfOk r (λ _. decode place left ≡ Ok (Some event))
reads_back event buffer place (Err fault) left w p value after = tt
reads_back event buffer place (Ok end) left w p value after =
    ap (decode place) after ∙ message_reads place (put buffer place (encode event)) event (put_message event buffer place w p (fits_at (size event) (length buffer) place end value))
