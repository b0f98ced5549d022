-- Comparisons of values of different kinds.
use Rattle.std.proofs.Common.{◌≡◌, Bool, true, false, Option, Some, None, option_map, Ordering, refl}
use Rattle.std.specs.Prelude.{IsSome}
use Rattle.doc_values.specs.Order.{compared, admits, ComparesWithinKinds}
use Rattle.sql_eval.specs.declared.truth_value.Truth.TheVariants.{Unknown}
use Rattle.sql_eval.specs.Truth.{tested}
use Rattle.sinew_laws.specs.Kinds.{IsUnknownAcrossKinds}

-- What a test answers is known.
known : (b : Bool) → tested (Some b) ≡ Unknown → ⊥
known true e = absurd (cc)
known false e = absurd (cc)

known_where_some : (test : Ordering → Bool) (o : Option Ordering) → IsSome o → tested (option_map test o) ≡ Unknown → ⊥
known_where_some test None some e = absurd (cc)
known_where_some test (Some x) some e = known (test x) e

unknown_where_none : (test : Ordering → Bool) (o : Option Ordering) → (IsSome o → ⊥) → tested (option_map test o) ≡ Unknown
unknown_where_none test None none = refl
unknown_where_none test (Some x) none = absurd (none refl)

-- Values compare exactly where their kinds are one, and a comparison is unknown where they do not compare.
pub across_kinds : ComparesWithinKinds → IsUnknownAcrossKinds
across_kinds within op a b = (
  λ unknown same. known_where_some (admits op) (compared a b) ((within a b).1 same) unknown,
  λ differ. unknown_where_none (admits op) (compared a b) (λ some. differ ((within a b).0 some)),
)
