-- Chains and lists, optional parts, and a thing in brackets.
use Rattle.std.proofs.Common.{◌≡◌, ℕ, zero, suc, ◌<◌, ◌≤◌, List, [], ◌∷◌, ◌++◌, length, Option, Some, None, refl, subst, ap, arith, append_assoc, length-append}
use Rattle.sql_grammar.specs.declared.mark.Mark.{Mark}
use Rattle.sql_grammar.specs.declared.terminal.Terminal.{Terminal}
use Rattle.sql_grammar.specs.declared.terminal.Terminal.TheVariants as terminal
use Rattle.sql_grammar.specs.Languages.{Language, Members, none, more, Chain, chain}
use Rattle.sql_grammar.specs.Reader.{Found, Reader, ◌>>=◌, joins_in, members_by, members_in, chain_in}
use Rattle.sql_grammar.proofs.Marks.{Stops, Stops-weaken, Binds, joins-found, joins-at, joins-stop, same-found}
use Rattle.sql_grammar.proofs.Reading.{Front, Reads, bind-found}

module _ {S A M : Type 0} (joins : Mark → Option S) (make : S → A → M) (part : Reader A) (Part : Language A) (j k : ℕ) (binds_so : Binds j joins) (below : j < k) (reads : Reads k part Part) where
  members-stop : (xs : List M) (front rest : List Terminal) → Members joins make Part xs front → Stops j rest → Stops k (front ++ rest)
  members-stop [] [] rest none stop = Stops-weaken j k rest (omega arith) stop
  members-stop xs front rest (more {mark} {s} e p ms) stop = let so = binds_so.binds_so mark s e in omega arith

  members-sound-by : (n : ℕ) (all : List Terminal) (o : Found S) (xs : List M) (rest : List Terminal)
      → ((all : List Terminal) (xs : List M) (rest : List Terminal) → members_in joins make part n all ≡ Some (xs, rest) → Front (Members joins make Part) xs all rest)
      → joins_in joins all ≡ o → members_by make part (members_in joins make part n) all o ≡ Some (xs, rest) → Front (Members joins make Part) xs all rest
  members-sound-by n all None xs rest again e h = let same = same-found [] xs all rest h in record { front = []; spells = subst (λ ys. Members joins make Part ys []) same.0 none; split = same.1 }
  members-sound-by n all (Some p) xs rest again e h =
      let joined = joins-found joins p.0 all p.1 e in
      let first = bind-found (part p.1) (λ x rest. members_in joins make part n rest >>= λ xs rest. Some (make p.0 x ∷ xs, rest)) xs rest h in
      let others = bind-found (members_in joins make part n first.after) (λ xs rest. Some (make p.0 first.x ∷ xs, rest)) xs rest first.second in
      let a = reads.sound p.1 first.x first.after first.first in
      let b = again first.after others.x others.after others.first in
      let same = same-found (make p.0 first.x ∷ others.x) xs others.after rest others.second in
      let spelled : Members joins make Part (make p.0 first.x ∷ others.x) (terminal.Mark joined.mark ∷ (a.front ++ b.front)) = more joined.joins_so a.spells b.spells in
      record {
        front = terminal.Mark joined.mark ∷ (a.front ++ b.front);
        spells = subst (λ ys. Members joins make Part ys (terminal.Mark joined.mark ∷ (a.front ++ b.front))) same.0 spelled;
        split = let e1 = joined.first in let e2 = a.split in let e3 = b.split in let e4 = same.1 in let e5 : (a.front ++ b.front) ++ rest ≡ a.front ++ (b.front ++ rest) = append_assoc a.front b.front rest in cc;
      }

  pub members-sound : (n : ℕ) (all : List Terminal) (xs : List M) (rest : List Terminal) → members_in joins make part n all ≡ Some (xs, rest) → Front (Members joins make Part) xs all rest
  unfolding members_in
  members-sound zero all xs rest h = let same = same-found [] xs all rest h in record { front = []; spells = subst (λ ys. Members joins make Part ys []) same.0 none; split = same.1 }
  members-sound (suc n) all xs rest h = members-sound-by n all (joins_in joins all) xs rest (members-sound n) refl h

  pub members-complete : (n : ℕ) (xs : List M) (front rest : List Terminal) → Members joins make Part xs front → Stops j rest → length (front ++ rest) ≤ n → members_in joins make part n (front ++ rest) ≡ Some (xs, rest)
  unfolding members_in
  members-complete zero [] [] rest none stop enough = refl
  members-complete (suc n) [] [] rest none stop enough = let e : joins_in joins rest ≡ None = joins-stop joins j j rest (omega arith) binds_so stop in rw e
  members-complete zero xs front rest (more e p ms) stop enough = absurd (omega arith)
  members-complete (suc n) xs front rest (more {mark} {s} {x} {xs = ys} {a} {b} e p ms) stop enough =
      let e1 : joins_in joins (terminal.Mark mark ∷ ((a ++ b) ++ rest)) ≡ Some (s, (a ++ b) ++ rest) = joins-at joins s mark ((a ++ b) ++ rest) e in
      let e2 : (a ++ b) ++ rest ≡ a ++ (b ++ rest) = append_assoc a b rest in
      let e3 : part (a ++ (b ++ rest)) ≡ Some (x, b ++ rest) = reads.complete x a (b ++ rest) p (members-stop ys b rest ms stop) in
      let fits : length (b ++ rest) ≤ n = omega (arith, length-append a (b ++ rest), ap length e2) in
      let e4 : members_in joins make part n (b ++ rest) ≡ Some (ys, rest) = members-complete n ys b rest ms stop fits in
      rw (e1, e2, e3, e4)

  module _ {N : Type 0} (node : A → List M → N) where
    chain-sound : (all : List Terminal) (y : N) (rest : List Terminal) → chain_in joins make node part all ≡ Some (y, rest) → Front (Chain joins make node Part) y all rest
    unfolding chain_in
    chain-sound all y rest h =
        let first = bind-found (part all) (λ x rest. members_in joins make part (length rest) rest >>= λ xs rest. Some (node x xs, rest)) y rest h in
        let others = bind-found (members_in joins make part (length first.after) first.after) (λ xs rest. Some (node first.x xs, rest)) y rest first.second in
        let a = reads.sound all first.x first.after first.first in
        let b = members-sound (length first.after) first.after others.x others.after others.first in
        let same = same-found (node first.x others.x) y others.after rest others.second in
        record {
          front = a.front ++ b.front;
          spells = subst (λ z. Chain joins make node Part z (a.front ++ b.front)) same.0 (chain a.spells b.spells);
          split = let e2 = a.split in let e3 = b.split in let e4 = same.1 in let e5 : (a.front ++ b.front) ++ rest ≡ a.front ++ (b.front ++ rest) = append_assoc a.front b.front rest in cc;
        }

    chain-complete : (y : N) (front rest : List Terminal) → Chain joins make node Part y front → Stops j rest → chain_in joins make node part (front ++ rest) ≡ Some (y, rest)
    unfolding chain_in
    chain-complete y front rest (chain {x} {xs} {a} {b} p ms) stop =
        let e2 : (a ++ b) ++ rest ≡ a ++ (b ++ rest) = append_assoc a b rest in
        let e3 : part (a ++ (b ++ rest)) ≡ Some (x, b ++ rest) = reads.complete x a (b ++ rest) p (members-stop xs b rest ms stop) in
        let e4 : members_in joins make part (length (b ++ rest)) (b ++ rest) ≡ Some (xs, rest) = members-complete (length (b ++ rest)) xs b rest ms stop (omega arith) in
        rw (e2, e3, e4)

    pub chain-reads : Reads j (chain_in joins make node part) (Chain joins make node Part)
    chain-reads = record { sound = chain-sound; complete = chain-complete }
