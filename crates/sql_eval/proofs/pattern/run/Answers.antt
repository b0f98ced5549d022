use Rattle.std.proofs.Common.{eq-eqb, ne_eqb, sym, arith, rules}
use Rattle.std.specs.Str.{chars}
use Rattle.sql_eval.proofs.Likes.{taken, taken_later, starred}
use Rattle.sql_eval.proofs.pattern.run.Goals as goal

pub returns-then-stands-eq37-clause-exact : goal.returns-then-stands-eq37-clause-exact
returns-then-stands-eq37-clause-exact c =
    let held = c.loop-stands.invariant in
    starred (chars c.args.pattern.now) (chars c.args.text.now) (chars c.loop-stands.wanted.now) (chars c.loop-stands.left.now) (chars c.in-Some.rest.now) c.in-Some.stands
    c.in-Some.ensures.exact (eq-eqb c.in-Some.stands 37 c.if-stands-eq37.true) held.same held.later

pub loop-stands-preserved : goal.loop-stands-preserved
loop-stands-preserved c =
    let held = c.loop-stands.invariant in
    let wanted = c.in-Some.ensures.exact in
    let left = c.in-Some-first_of.ensures.exact in
    let plain = ne_eqb c.in-Some.stands 37 c.if-stands-eq37.false in
    record {
      left_is_text = search rules;
      wanted_is_text = search rules;
      same = taken (chars c.args.pattern.now) (chars c.args.text.now) (chars c.loop-stands.wanted.now) (chars c.loop-stands.left.now) (chars c.in-Some.rest.now) (chars c.in-Some-first_of.behind.now) c.in-Some.stands c.in-Some-first_of.c wanted left plain (sym c.if-stands_for.ensures.exact) held.same;
      later = taken_later (chars c.args.pattern.now) (chars c.args.text.now) (chars c.loop-stands.wanted.now) (chars c.loop-stands.left.now) (chars c.in-Some.rest.now) (chars c.in-Some-first_of.behind.now) c.in-Some.stands c.in-Some-first_of.c wanted left plain held.later;
      shorter = omega (arith, c.in-Some-first_of.ensures.shorter, held.shorter);
      shorter_wanted = omega (arith, c.in-Some.ensures.shorter, held.shorter_wanted);
    }
