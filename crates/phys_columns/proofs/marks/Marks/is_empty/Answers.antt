use Rattle.std.proofs.Common.{◌≡◌, ◌<◌, ◌∙◌, sym, arith, true, false, inl, inr}
use Rattle.std.proofs.lemmas.Bool.Decides.{eqb_tells}
use Rattle.phys_columns.proofs.marks.Marks.is_empty.Goals as goal

pub returns : goal.returns
returns c = record {
  none = λ empty k below. elim (eqb_tells c.next.result 1024) [
    | inl same ↦ c.next.ensures.none k (omega arith) (omega (arith, same.1))
    | inr differs ↦ absurd (let e : true ≡ false = sym empty ∙ differs.0 in cc)
  ];
  some = λ filled. elim (eqb_tells c.next.result 1024) [
    | inl same ↦ absurd (let e : true ≡ false = sym same.0 ∙ filled in cc)
    | inr differs ↦
        let below : c.next.result < 1024 = omega (arith, differs.1, c.next.ensures.between) in
        (c.next.result, below, c.next.ensures.here below)
  ];
}
