-- Values that are kept once each.
use Rattle.std.proofs.Common.{◌≡◌, ◌∙◌, ℕ, Bool, true, false, cond, List, [], ◌∷◌, ◌++◌, ◌||◌, map, string_bytes, refl, sym, ap}
use Rattle.std.specs.List.{list_any}
use Rattle.std.specs.Str.{bytes_eq}
use Rattle.std.specs.String.{string_eq}
use Rattle.std.specs.declared.string.String.{String}
use Rattle.std.proofs.lemmas.List.{map-append}
use Rattle.indexmap.specs.IndexSet.{insert_key}
use Rattle.schema_analyser.specs.Different.{with_different}

pub any_map : {X Y : Type 0} (p : Y → Bool) (f : X → Y) (xs : List X) → list_any (λ x. p (f x)) xs ≡ list_any p (map f xs)
any_map p f [] = refl
any_map p f (x ∷ xs) = ap (λ b. p (f x) || b) (any_map p f xs)

-- one value more, seen by what each stands for
pub with_seen : {X Y : Type 0} (eq : Y → Y → Bool) (f : X → Y) (xs : List X) (x : X) → map f (with_different (λ a b. eq (f a) (f b)) xs x) ≡ with_different eq (map f xs) (f x)
with_seen eq f xs x = ap (λ b. map f (cond b xs (xs ++ x ∷ []))) (any_map (eq (f x)) f xs) ∙ by (list_any (eq (f x)) (map f xs))
  where
    by : (b : Bool) → map f (cond b xs (xs ++ x ∷ [])) ≡ cond b (map f xs) (map f xs ++ f x ∷ [])
    by true = refl
    by false = map-append f xs (x ∷ [])

module _ {Y : Type 0} where
  -- a text that is there
  pub text_there : (ks : List (String Y)) (t : List ℕ) → list_any (λ k. bytes_eq t (string_bytes k)) ks ≡ true → map string_bytes ks ≡ with_different bytes_eq (map string_bytes ks) t
  text_there ks t e = ap (λ b. cond b (map string_bytes ks) (map string_bytes ks ++ t ∷ [])) (sym (sym (any_map (bytes_eq t) string_bytes ks) ∙ e))

  -- a text that is put to them
  pub text_put : (ks : List (String Y)) (k : String Y) (t : List ℕ) → string_bytes k ≡ t → map string_bytes (insert_key string_eq ks k) ≡ with_different bytes_eq (map string_bytes ks) t
  text_put ks k t e = with_seen bytes_eq string_bytes ks k ∙ ap (with_different bytes_eq (map string_bytes ks)) e
