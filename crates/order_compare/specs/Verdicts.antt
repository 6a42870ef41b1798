-- What a verdict says, by the paper's values: the first i, then j, or nothing.
use Rattle.std.proofs.Math.Option.{Option, none, some}
use Rattle.std.specs.Prelude.{ℕ}
use Rattle.expression_grammar.specs.Check as Check
use Rattle.order_compare.specs.declared.Verdict.{Verdict}
use Rattle.order_compare.specs.declared.Verdict.TheVariants.{Same, Differs}

abbrev pub said : Option (ℕ × ℕ) → Verdict
said none = Same
said (some p) = Differs (record { i = p.0; j = p.1 })

-- the verdict in the paper's words
abbrev pub verdict_of : Verdict → Check.Verdict
verdict_of Same = Check.same
verdict_of (Differs p) = Check.differs p.i p.j
