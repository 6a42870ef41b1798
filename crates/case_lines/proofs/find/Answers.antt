use Rattle.std.proofs.Common.{◌≡◌, ap, ◌+◌, ◌-◌, ℕ, drop, take, length, arith, length-drop}
use Rattle.std.proofs.lemmas.List.{take_all}
use Rattle.case_lines.proofs.Fields.{first_stop}
use Rattle.case_lines.proofs.find.Goals as goal

pub returns-clause-value : goal.returns-clause-value
returns-clause-value c =
    let l = drop c.args.from c.args.s.now in
    let e : take (length c.args.s.now - c.args.from) l ≡ l = take_all _ l (omega (arith, length-drop c.args.from c.args.s.now)) in
    ap (λ (k : ℕ). c.args.from + k) (rw (c.unwrap_or.ensures, c.place.ensures, e) (first_stop c.args.stop l))
