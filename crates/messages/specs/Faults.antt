-- The number of each fault of the reader's layer.
use Rattle.std.specs.Prelude.{◌≡◌, ℕ, [], ◌∷◌, slice_index_or}
use Rattle.std.proofs.Common.{sym, refl, ap, ◌∙◌}
use Rattle.messages.specs.declared.fault.ReaderFault.{ReaderFault}
use Rattle.messages.specs.declared.fault.ReaderFault.TheVariants.{HeaderTruncated, TagUnknown, LengthWrong, ValueTruncated, MarkUnknown, NoSpace, InputTooLong}

abbrev pub number : ReaderFault → ℕ
number HeaderTruncated = 1
number TagUnknown = 2
number LengthWrong = 3
number ValueTruncated = 4
number MarkUnknown = 5
number NoSpace = 6
number InputTooLong = 7

fault_of : ℕ → ReaderFault
fault_of n =
    slice_index_or (InputTooLong ∷ HeaderTruncated ∷ TagUnknown ∷ LengthWrong ∷ ValueTruncated ∷ MarkUnknown ∷ NoSpace ∷ []) n InputTooLong

fault_back : (fault : ReaderFault) → fault_of (number fault) ≡ fault
unfolding fault_of
fault_back HeaderTruncated = refl
fault_back TagUnknown = refl
fault_back LengthWrong = refl
fault_back ValueTruncated = refl
fault_back MarkUnknown = refl
fault_back NoSpace = refl
fault_back InputTooLong = refl

-- no two faults have one number
pub tells_apart : (a b : ReaderFault) → number a ≡ number b → a ≡ b
tells_apart a b e = sym (fault_back a) ∙ ap fault_of e ∙ fault_back b
