-- `Series::judge` meets its contract: one law for each test. Assumes nothing.
use Rattle.std.proofs.Common.{sym, ap, ◌∙◌, arith}
use Rattle.model.specs.declared.Line.{Line}
use Rattle.line_series.proofs.Telling.{one_low, part_low, two_low, tells_none, tells_part, tells_twice, tells_stray, tells_nothing}
use Rattle.line_series.proofs.Series.judge.Goals as goal

pub returns-in_default : goal.returns-in_default
returns-in_default c = tells_none _ _ _ _ _ _ c.meeting-met.ensures _ _ _ _ c.in_default.is

pub overflow_cast-line : goal.overflow_cast-line
overflow_cast-line c = omega (arith, part_low _ _ _ _ _ _ c.meeting-met.ensures c.in-Some-part.is, c.args.table.now.tabled.few)

pub returns-in-Some-part : goal.returns-in-Some-part
returns-in-Some-part c = tells_part _ _ _ _ _ _ c.meeting-met.ensures _ _ _ _ c.in-Some.is c.in-Some-part.is

pub overflow_cast-line-in-Some-two : goal.overflow_cast-line-in-Some-two
overflow_cast-line-in-Some-two c = omega (arith, two_low _ _ _ _ _ _ c.meeting-met.ensures c.in-Some-two.is, c.args.table.now.tabled.few)

pub returns-in-Some-two : goal.returns-in-Some-two
returns-in-Some-two c = tells_twice _ _ _ _ _ _ c.meeting-met.ensures _ _ _ _ c.in-Some.is c.in_default-part.is c.in-Some-two.is

pub line-requires : goal.line-requires
line-requires c = one_low _ _ _ _ _ _ c.meeting-met.ensures c.in-Some.is

pub overflow_cast-line-then-line-self : goal.overflow_cast-line-then-line-self
overflow_cast-line-then-line-self c = omega (arith, one_low _ _ _ _ _ _ c.meeting-met.ensures c.in-Some.is, c.args.table.now.tabled.few)

pub returns-then-line-self : goal.returns-then-line-self
returns-then-line-self c =
    tells_stray _ _ _ _ _ _ c.meeting-met.ensures _ _ _ _ c.in-Some.is c.in_default-part.is c.in_default-two.is
    (λ e. c.if-line-self.true (ap (λ (l : Line). l.out) c.line.ensures.is ∙ e))

pub returns : goal.returns
returns c =
    tells_nothing _ _ _ _ _ _ c.meeting-met.ensures _ _ _ _ c.in-Some.is c.in_default-part.is c.in_default-two.is
    (sym (ap (λ (l : Line). l.out) c.line.ensures.is) ∙ c.if-line-self.false)
