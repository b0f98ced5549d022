-- A tree whose numbers are integers holds no float, so its compact text is exact.
use Rattle.std.proofs.Common.{◌≡◌, Bool, true, false, ◌||◌, refl}
use Rattle.serde_json.specs.Data.{Num, unsigned, negative, float, Data, null, boolean, number, string, array, object, Items, no_items, item, Members, no_members, member}
use Rattle.serde_json.specs.Find.{is_float}
use Rattle.serde_json.specs.Written.{has_float, items_have_float, members_have_float}
use Rattle.std.proofs.Common.{is_some}
use Rattle.doc_flatten.specs.Tree.{int_of, has_integers, items_have_integers, members_have_integers}
use Rattle.doc_flatten.proofs.Tests.{both_true}

neither : (a b : Bool) → a ≡ false → b ≡ false → a || b ≡ false
neither false b p q = q
neither true b p q = absurd (cc)

is_float-integer : (n : Num) → is_some (int_of n) ≡ true → is_float n ≡ false
is_float-integer (unsigned n) h = refl
is_float-integer (negative z) h = refl
is_float-integer (float x) h = absurd (cc)

mutual
  pub has_float-integers : (d : Data) → has_integers d ≡ true → has_float d ≡ false
  has_float-integers null h = refl
  has_float-integers (boolean b) h = refl
  has_float-integers (number n) h = is_float-integer n h
  has_float-integers (string s) h = refl
  has_float-integers (array ds) h = items_have_float-integers ds h
  has_float-integers (object ms) h = members_have_float-integers ms h

  items_have_float-integers : (ds : Items) → items_have_integers ds ≡ true → items_have_float ds ≡ false
  items_have_float-integers no_items h = refl
  items_have_float-integers (item d ds) h =
      let p = both_true (has_integers d) _ h in neither (has_float d) _ (has_float-integers d p.0) (items_have_float-integers ds p.1)

  members_have_float-integers : (ms : Members) → members_have_integers ms ≡ true → members_have_float ms ≡ false
  members_have_float-integers no_members h = refl
  members_have_float-integers (member k d ms) h =
      let p = both_true (has_integers d) _ h in neither (has_float d) _ (has_float-integers d p.0) (members_have_float-integers ms p.1)
