use Rattle.sets.specs.Sets.{count}
use Rattle.form_split.proofs.Writing.{Going}
use Rattle.form_split.proofs.+put_form.Given as goal

abbrev pub decreases-put_form : goal.decreases-put_form
decreases-put_form l = count l.set

abbrev pub invariant-loop-rest : goal.invariant-loop-rest
invariant-loop-rest l = Going 32 l.order.after.now l.k l.nested l.set l.initial.o l.initial.out l.rest l.o l.out

abbrev pub decreases-loop-rest : goal.decreases-loop-rest
decreases-loop-rest l = count l.rest
