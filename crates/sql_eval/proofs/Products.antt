-- Products of whole numbers may be taken in any grouping.
use Rattle.std.proofs.Common.{◌≡◌, ℕ, zero, suc, ◌*◌, ℤ, pos, negsuc, ◌*ℤ◌, sym, ap, ◌∙◌}
use Rattle.std.proofs.Math.IntN.{neg_ℤ, neg_ℤ-neg_ℤ, *ℤ_comm, *ℤ-negsuc, *ℤ-zero, pos-*ℤ-pos}
use Rattle.std.proofs.Math.Nat.{mul_assoc}

times_negative : (a b : ℤ) → a *ℤ neg_ℤ b ≡ neg_ℤ (a *ℤ b)
times_negative a (pos zero) = *ℤ-zero a ∙ sym (ap neg_ℤ (*ℤ-zero a))
times_negative a (pos (suc n)) = *ℤ-negsuc a n
times_negative a (negsuc n) = sym (neg_ℤ-neg_ℤ (a *ℤ pos (suc n))) ∙ ap neg_ℤ (sym (*ℤ-negsuc a n))

negative_times : (a b : ℤ) → neg_ℤ a *ℤ b ≡ neg_ℤ (a *ℤ b)
negative_times a b = *ℤ_comm (neg_ℤ a) b ∙ times_negative b a ∙ ap neg_ℤ (*ℤ_comm b a)

naturals : (a b c : ℕ) → (pos a *ℤ pos b) *ℤ pos c ≡ pos a *ℤ (pos b *ℤ pos c)
naturals a b c =
    ap (λ x. x *ℤ pos c) (pos-*ℤ-pos a b) ∙ pos-*ℤ-pos (a * b) c ∙ ap pos (mul_assoc a b c) ∙ sym (pos-*ℤ-pos a (b * c)) ∙ ap (λ x. pos a *ℤ x) (sym (pos-*ℤ-pos b c))

last_any : (a b : ℕ) (c : ℤ) → (pos a *ℤ pos b) *ℤ c ≡ pos a *ℤ (pos b *ℤ c)
last_any a b (pos c) = naturals a b c
last_any a b (negsuc c) =
    times_negative (pos a *ℤ pos b) (pos (suc c)) ∙ ap neg_ℤ (naturals a b (suc c)) ∙ sym (times_negative (pos a) (pos b *ℤ pos (suc c))) ∙ ap (λ x. pos a *ℤ x) (sym (times_negative (pos b) (pos (suc c))))

two_any : (a : ℕ) (b c : ℤ) → (pos a *ℤ b) *ℤ c ≡ pos a *ℤ (b *ℤ c)
two_any a (pos b) c = last_any a b c
two_any a (negsuc b) c =
    ap (λ x. x *ℤ c) (times_negative (pos a) (pos (suc b))) ∙ negative_times (pos a *ℤ pos (suc b)) c ∙ ap neg_ℤ (last_any a (suc b) c) ∙ sym (times_negative (pos a) (pos (suc b) *ℤ c)) ∙ ap (λ x. pos a *ℤ x) (sym (negative_times (pos (suc b)) c))

pub times_assoc : (a b c : ℤ) → (a *ℤ b) *ℤ c ≡ a *ℤ (b *ℤ c)
times_assoc (pos a) b c = two_any a b c
times_assoc (negsuc a) b c =
    ap (λ x. x *ℤ c) (negative_times (pos (suc a)) b) ∙ negative_times (pos (suc a) *ℤ b) c ∙ ap neg_ℤ (two_any (suc a) b c) ∙ sym (negative_times (pos (suc a)) (b *ℤ c))
