-- The number of each fault of a rule, which tells it from the other.
use Rattle.std.specs.Prelude.{◌≡◌, ℕ, refl}
use Rattle.std.proofs.Common.{arith}
use Rattle.rules.specs.declared.fault.RuleFault.{RuleFault}
use Rattle.rules.specs.declared.fault.RuleFault.TheVariants.{PriceOutOfLimit, QuestionOutOfLimit}

abbrev pub number : RuleFault → ℕ
number PriceOutOfLimit = 11
number QuestionOutOfLimit = 50

pub tells_apart : (a b : RuleFault) → number a ≡ number b → a ≡ b
tells_apart PriceOutOfLimit PriceOutOfLimit e = refl
tells_apart PriceOutOfLimit QuestionOutOfLimit e = absurd (omega arith)
tells_apart QuestionOutOfLimit PriceOutOfLimit e = absurd (omega arith)
tells_apart QuestionOutOfLimit QuestionOutOfLimit e = refl
