-- One attribute more: what is found behind it.
use Rattle.std.proofs.Common.{◌≡◌, ◌≢◌, ℕ, ◌⊎◌, inl, inr, Bool, true, false, ◌&&◌, nat_eq, cond, List, [], ◌∷◌, ◌++◌, length, Option, Some, None, option_map, slice_get, position, refl, sym, ap, ◌∙◌}
use Rattle.std.specs.Str.{bytes_eq}
use Rattle.std.proofs.lemmas.Bool.{false_from_ne_true}
use Rattle.std.proofs.lemmas.Slice.Eq.{bytes_eq-Decides}
use Rattle.std.specs.Cmp.{unsigned_Decides}
use Rattle.doc_values.specs.declared.attr_id.AttrId.{AttrId}
use Rattle.doc_values.specs.declared.kind.Kind as kind
use Rattle.doc_values.specs.Order.{rank}
use Rattle.attr_catalog.specs.Attribute.{Attribute, fresh}
use Rattle.attr_catalog.specs.Catalog.{Attributes, is_of, number, id_of, kinds_of, IsOnce}
use Rattle.attr_catalog.specs.Inside.{with_id}
use Rattle.attr_catalog.proofs.Positions.{first, position-first, first-push, or_else, get-push}
use Rattle.attr_catalog.proofs.Kept.{is_of-same}

else_none : (o : Option ℕ) → or_else o None ≡ o
else_none None = refl
else_none (Some i) = refl

and_false : (b : Bool) → b && false ≡ false
and_false true = refl
and_false false = refl

none_under : (o : Option ℕ) → option_map number o ≡ None → o ≡ None
none_under None h = refl
none_under (Some i) h = absurd (cc)

module _ (name : List ℕ) (of : kind.Kind) (list : Attributes) (a : Attribute) where
  pub id-other : is_of name of a ≡ false → id_of name of (list ++ a ∷ []) ≡ id_of name of list
  id-other h =
      ap (option_map number)
      (position-first (is_of name of) (list ++ a ∷ []) ∙ first-push (is_of name of) list a ∙ ap (λ b. or_else (first (is_of name of) list) (cond b (Some (length list)) None)) h
      ∙ else_none (first (is_of name of) list) ∙ sym (position-first (is_of name of) list))

  pub id-new : is_of name of a ≡ true → id_of name of list ≡ None → id_of name of (list ++ a ∷ []) ≡ Some (number (length list))
  id-new h none =
      ap (option_map number)
      (position-first (is_of name of) (list ++ a ∷ []) ∙ first-push (is_of name of) list a ∙ ap (λ b. or_else (first (is_of name of) list) (cond b (Some (length list)) None)) h
      ∙ ap (λ o. or_else o (Some (length list))) (sym (position-first (is_of name of) list) ∙ none_under (position (is_of name of) list) none))

  kept_by : (o : Option ℕ) (id : AttrId) (p : Option ℕ) → option_map number o ≡ Some id → option_map number (or_else o p) ≡ Some id
  kept_by None id p h = absurd (cc)
  kept_by (Some i) id p h = h

  pub id-kept : (id : AttrId) → id_of name of list ≡ Some id → id_of name of (list ++ a ∷ []) ≡ Some id
  id-kept id h =
      ap (option_map number) (position-first (is_of name of) (list ++ a ∷ []) ∙ first-push (is_of name of) list a)
      ∙ kept_by (first (is_of name of) list) id (cond (is_of name of a) (Some (length list)) None) (ap (option_map number) (sym (position-first (is_of name of) list)) ∙ h)

own : (name : List ℕ) (a : Attribute) (of : kind.Kind) → a.kind ≡ of → bytes_eq name a.name ≡ true → is_of name of a ≡ true
own name a of e h =
    ap (λ b. b && nat_eq (rank of) (rank a.kind)) h ∙ (unsigned_Decides (rank of) (rank a.kind)).1 (ap rank (sym e))

unlike : (name : List ℕ) (a : Attribute) (asked of : kind.Kind) → a.kind ≡ of → nat_eq (rank asked) (rank of) ≡ false → is_of name asked a ≡ false
unlike name a asked of e h = ap (λ k. bytes_eq name a.name && nat_eq (rank asked) (rank k)) e ∙ ap (λ b. bytes_eq name a.name && b) h ∙ and_false (bytes_eq name a.name)

-- the numbers of its name have one more
pub kinds-push : (name : List ℕ) (list : Attributes) (a : Attribute) (of : kind.Kind) → a.kind ≡ of → bytes_eq name a.name ≡ true → id_of name of list ≡ None → kinds_of name (list ++ a ∷ []) ≡ with_id of (Some (number (length list))) (kinds_of name list)
kinds-push name list a kind.TheVariants.Bool e h none = λ i. record {
  bool_id = id-new name kind.TheVariants.Bool list a (own name a kind.TheVariants.Bool e h) none i;
  int_id = id-other name kind.TheVariants.Int list a (unlike name a kind.TheVariants.Int kind.TheVariants.Bool e refl) i;
  text_id = id-other name kind.TheVariants.Text list a (unlike name a kind.TheVariants.Text kind.TheVariants.Bool e refl) i;
  array_id = id-other name kind.TheVariants.Array list a (unlike name a kind.TheVariants.Array kind.TheVariants.Bool e refl) i;
  object_id = id-other name kind.TheVariants.Object list a (unlike name a kind.TheVariants.Object kind.TheVariants.Bool e refl) i;
}
kinds-push name list a kind.TheVariants.Int e h none = λ i. record {
  bool_id = id-other name kind.TheVariants.Bool list a (unlike name a kind.TheVariants.Bool kind.TheVariants.Int e refl) i;
  int_id = id-new name kind.TheVariants.Int list a (own name a kind.TheVariants.Int e h) none i;
  text_id = id-other name kind.TheVariants.Text list a (unlike name a kind.TheVariants.Text kind.TheVariants.Int e refl) i;
  array_id = id-other name kind.TheVariants.Array list a (unlike name a kind.TheVariants.Array kind.TheVariants.Int e refl) i;
  object_id = id-other name kind.TheVariants.Object list a (unlike name a kind.TheVariants.Object kind.TheVariants.Int e refl) i;
}
kinds-push name list a kind.TheVariants.Text e h none = λ i. record {
  bool_id = id-other name kind.TheVariants.Bool list a (unlike name a kind.TheVariants.Bool kind.TheVariants.Text e refl) i;
  int_id = id-other name kind.TheVariants.Int list a (unlike name a kind.TheVariants.Int kind.TheVariants.Text e refl) i;
  text_id = id-new name kind.TheVariants.Text list a (own name a kind.TheVariants.Text e h) none i;
  array_id = id-other name kind.TheVariants.Array list a (unlike name a kind.TheVariants.Array kind.TheVariants.Text e refl) i;
  object_id = id-other name kind.TheVariants.Object list a (unlike name a kind.TheVariants.Object kind.TheVariants.Text e refl) i;
}
kinds-push name list a kind.TheVariants.Array e h none = λ i. record {
  bool_id = id-other name kind.TheVariants.Bool list a (unlike name a kind.TheVariants.Bool kind.TheVariants.Array e refl) i;
  int_id = id-other name kind.TheVariants.Int list a (unlike name a kind.TheVariants.Int kind.TheVariants.Array e refl) i;
  text_id = id-other name kind.TheVariants.Text list a (unlike name a kind.TheVariants.Text kind.TheVariants.Array e refl) i;
  array_id = id-new name kind.TheVariants.Array list a (own name a kind.TheVariants.Array e h) none i;
  object_id = id-other name kind.TheVariants.Object list a (unlike name a kind.TheVariants.Object kind.TheVariants.Array e refl) i;
}
kinds-push name list a kind.TheVariants.Object e h none = λ i. record {
  bool_id = id-other name kind.TheVariants.Bool list a (unlike name a kind.TheVariants.Bool kind.TheVariants.Object e refl) i;
  int_id = id-other name kind.TheVariants.Int list a (unlike name a kind.TheVariants.Int kind.TheVariants.Object e refl) i;
  text_id = id-other name kind.TheVariants.Text list a (unlike name a kind.TheVariants.Text kind.TheVariants.Object e refl) i;
  array_id = id-other name kind.TheVariants.Array list a (unlike name a kind.TheVariants.Array kind.TheVariants.Object e refl) i;
  object_id = id-new name kind.TheVariants.Object list a (own name a kind.TheVariants.Object e h) none i;
}

another : (name : List ℕ) (of : kind.Kind) (a : Attribute) → name ≢ a.name → is_of name of a ≡ false
another name of a h = false_from_ne_true (is_of name of a) (λ t. h (is_of-same name of a t))

-- the numbers of another name stay
pub kinds-other : (name : List ℕ) (list : Attributes) (a : Attribute) → name ≢ a.name → kinds_of name (list ++ a ∷ []) ≡ kinds_of name list
kinds-other name list a h = λ i. record {
  bool_id = id-other name kind.TheVariants.Bool list a (another name kind.TheVariants.Bool a h) i;
  int_id = id-other name kind.TheVariants.Int list a (another name kind.TheVariants.Int a h) i;
  text_id = id-other name kind.TheVariants.Text list a (another name kind.TheVariants.Text a h) i;
  array_id = id-other name kind.TheVariants.Array list a (another name kind.TheVariants.Array a h) i;
  object_id = id-other name kind.TheVariants.Object list a (another name kind.TheVariants.Object a h) i;
}

-- each pair stands once behind a new one
pub IsOnce-push : (list : Attributes) (a : Attribute) → IsOnce list → id_of a.name a.kind list ≡ None → IsOnce (list ++ a ∷ [])
IsOnce-push list a once none i x at = by (get-push list a i x at)
  where
    by : (slice_get list i ≡ Some x) ⊎ ((i ≡ length list) × (x ≡ a)) → id_of x.name x.kind (list ++ a ∷ []) ≡ Some (number i)
    by (inl old) = id-kept x.name x.kind list a (number i) (once i x old)
    by (inr new) =
        ap (λ y. id_of y.name y.kind (list ++ a ∷ [])) new.1 ∙ id-new a.name a.kind list a (own a.name a a.kind refl ((bytes_eq-Decides a.name a.name).1 refl)) none ∙ ap (λ k. Some (number k)) (sym new.0)

-- a new pair has the next number
pub number-push : (name : List ℕ) (of : kind.Kind) (list after : Attributes) (id : AttrId) → id_of name of list ≡ None → id.0 ≡ length list → after ≡ list ++ fresh name of ∷ [] → id_of name of after ≡ Some id
number-push name of list after id none next e =
    ap (id_of name of) e ∙ id-new name of list (fresh name of) (own name (fresh name of) of refl ((bytes_eq-Decides name name).1 refl)) none ∙ ap (λ k. Some (number k)) (sym next)
