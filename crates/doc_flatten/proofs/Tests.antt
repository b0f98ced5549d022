-- Tests joined by `&&`, as the walk's answers are.
use Rattle.std.proofs.Common.{◌≡◌, ℕ, ◌≤◌, max, Bool, true, false, ◌&&◌, nat_le, refl, arith}
use Rattle.std.proofs.lemmas.Bool.Decides.{nat_tests}

pub both_true : (a b : Bool) → a && b ≡ true → (a ≡ true) × (b ≡ true)
both_true true b h = (refl, h)
both_true false b h = absurd (cc)

pub nat_le-max : (a b n : ℕ) → nat_le (max a b) n ≡ nat_le a n && nat_le b n
nat_le-max a b n = grind (arith, nat_tests)

pub nat_le-more : (a b n : ℕ) → a ≤ b → nat_le a n ≡ false → nat_le b n ≡ false
nat_le-more a b n h e = grind (arith, nat_tests)

-- What a tree with one more member is tested for, where the member has passed: what the others are tested for.
pub rest_decides : (deep others_deep whole others_whole key paths others_paths few all_few : Bool) → key ≡ true → ((deep && whole) && paths) && few ≡ true
    → (((deep && others_deep) && (whole && others_whole)) && ((key && paths) && others_paths)) && all_few ≡ ((others_deep && others_whole) && others_paths) && all_few
rest_decides true od true ow true true op few all k h = refl
rest_decides true od true ow true false op few all k h = absurd (cc)
rest_decides true od true ow false p op few all k h = absurd (cc)
rest_decides true od false ow key p op few all k h = absurd (cc)
rest_decides false od w ow key p op few all k h = absurd (cc)

-- Where the member has failed, they all have.
pub member_fails : (deep others_deep whole others_whole key paths others_paths few all_few : Bool) → ((deep && whole) && paths) && few ≡ false → (few ≡ false → all_few ≡ false)
    → (((deep && others_deep) && (whole && others_whole)) && ((key && paths) && others_paths)) && all_few ≡ false
member_fails false od w ow key p op few all h then = refl
member_fails true false w ow key p op few all h then = refl
member_fails true true false ow key p op few all h then = refl
member_fails true true true false key p op few all h then = refl
member_fails true true true true false p op few all h then = refl
member_fails true true true true true false op few all h then = refl
member_fails true true true true true true false few all h then = refl
member_fails true true true true true true true few all h then = then h
