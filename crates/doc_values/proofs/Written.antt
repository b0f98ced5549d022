-- The bytes that a writer of JSON hands back after one token at most.
use Rattle.std.proofs.Common.{◌≡◌, ℕ, List, [], ◌∷◌, ◌++◌, Result, Ok, Err, OnOk, OnErr, refl, append-nil}
use Rattle.json.specs.Token.{Token}
use Rattle.json.specs.Print.{print, print_from, token_text}

print-one : (t : Token) → print (t ∷ []) ≡ token_text t
unfolding print_from
print-one t = append-nil (token_text t)

print-none : print [] ≡ []
unfolding print_from
print-none = refl

module _ {E : Type 0} (before old new : List ℕ) (start tokens : List Token) (t : Token) (b : before ≡ old) (n : new ≡ before ++ print tokens) (e : start ≡ []) where
  pub appends_token : (r : Result (Unit {0}) E) → OnOk r (tokens ≡ start ++ t ∷ []) → OnOk r (new ≡ old ++ token_text t)
  appends_token (Ok u) h = rw (n, b, h, e, print-one t) refl
  appends_token (Err m) h = tt

  pub leaves_bytes : (r : Result (Unit {0}) E) → OnErr r (tokens ≡ start) → OnErr r (new ≡ old)
  leaves_bytes (Ok u) h = tt
  leaves_bytes (Err m) h = rw (n, b, h, e, print-none) (append-nil old)
