-- A tree that is read costs no more than the tokens it is read from: a value that a repeated key replaces only drops its cost.
use Rattle.std.proofs.Common.{◌≡◌, ℕ, ◌+◌, ◌*◌, ◌≤◌, List, [], ◌∷◌, ◌++◌, length, Option, Some, None, option_map, option_and_then, Ordering, Less, Equal, Greater, nat_cmp, refl, ap, arith}
use Rattle.std.specs.Prelude.{⊤}
use Rattle.std.specs.Ordering.{match_ordering}
use Rattle.std.specs.Cmp.Lexicographic.{slice_cmp}
use Rattle.json.specs.Token.{Token}
use Rattle.json.specs.Lex.{tokens}
use Rattle.json.specs.Json as json
use Rattle.json.specs.Tree.{json_tokens, items_tokens, members_tokens}
use Rattle.json.proofs.Unique.Spelling.{value-json_tokens_back}
use Rattle.serde_json.specs.Data.{Num, Data, array, object, number, Items, item, Members, no_members, member, put}
use Rattle.serde_json.specs.Read.{number_of, of_json, of_items, of_members, max_depth, read}
use Rattle.doc_flatten.proofs.Cost.{tokens_cost, tokens_cost-append, cost, items_cost, members_cost}
use Rattle.doc_flatten.proofs.LexedCost.{tokens-afforded}

-- ---- an object takes one member more

either_put : (o : Ordering) (n : ℕ) (a b c : Members) → members_cost a ≤ n → members_cost b ≤ n → members_cost c ≤ n → members_cost (match_ordering o a b c) ≤ n
either_put Less n a b c p q r = p
either_put Equal n a b c p q r = q
either_put Greater n a b c p q r = r

put-cost : (k : List ℕ) (d : Data) (ms : Members) → members_cost (put k d ms) ≤ 16 + 16 * length k + cost d + members_cost ms
put-cost k d no_members = omega arith
put-cost k d (member l e ms) =
    either_put (slice_cmp nat_cmp k l) _ (member k d (member l e ms)) (member l d ms) (member l e (put k d ms)) (omega arith) (omega arith) (omega (arith, put-cost k d ms))

-- ---- what is read, if anything is

abbrev pub Costs : ℕ → Option Data → Type 0
Costs n None = ⊤
Costs n (Some d) = cost d ≤ n

abbrev ItemsCost : ℕ → Option Items → Type 0
ItemsCost n None = ⊤
ItemsCost n (Some ds) = items_cost ds ≤ n

abbrev MembersCost : ℕ → Option Members → Type 0
MembersCost n None = ⊤
MembersCost n (Some ms) = members_cost ms + 16 ≤ n

of_number : (o : Option Num) → Costs 24 (option_map number o)
of_number None = tt
of_number (Some x) = omega arith

of_array : (n m : ℕ) (o : Option Items) → ItemsCost n o → 16 + n ≤ m → Costs m (option_map array o)
of_array n m None h le = tt
of_array n m (Some ds) h le = omega arith

of_object : (n m : ℕ) (o : Option Members) → MembersCost (16 + n) o → 16 + n ≤ m → Costs m (option_map object o)
of_object n m None h le = tt
of_object n m (Some ms) h le = omega arith

of_item : (n m whole : ℕ) (o : Option Data) (p : Option Items) → Costs n o → ItemsCost m p → n + m ≤ whole → ItemsCost whole (option_and_then (λ d. option_map (item d) p) o)
of_item n m whole None p h k le = tt
of_item n m whole (Some d) None h k le = tt
of_item n m whole (Some d) (Some ds) h k le = omega arith

then_members : (n m : ℕ) (o : Option Data) (more : Data → Option Members) → Costs n o → ((d : Data) → cost d ≤ n → MembersCost m (more d)) → MembersCost m (option_and_then more o)
then_members n m None more h k = tt
then_members n m (Some d) more h k = k d h

weaker : (n m : ℕ) (o : Option Members) → MembersCost n o → n ≤ m → MembersCost m o
weaker n m None h le = tt
weaker n m (Some ms) h le = omega arith

mutual
  of_json-cost : (j : json.Json) → Costs (tokens_cost (json_tokens j)) (of_json j)
  of_json-cost json.null = omega arith
  of_json-cost (json.boolean b) = omega arith
  of_json-cost (json.number s) = of_number (number_of s)
  of_json-cost (json.string s) = omega arith
  of_json-cost (json.array js) = of_array (tokens_cost (items_tokens js)) _ (of_items js) (of_items-cost js) (omega arith)
  of_json-cost (json.object ms) = of_object (tokens_cost (members_tokens ms)) _ (of_members ms no_members) (of_members-cost ms no_members) (omega arith)

  of_items-cost : (js : json.Items) → ItemsCost (tokens_cost (items_tokens js)) (of_items js)
  of_items-cost json.no_items = omega arith
  of_items-cost (json.item j js) =
      of_item (tokens_cost (json_tokens j)) (tokens_cost (items_tokens js)) _ (of_json j) (of_items js) (of_json-cost j) (of_items-cost js) (omega (arith, tokens_cost-append (json_tokens j) (items_tokens js)))

  of_members-cost : (ms : json.Members) (found : Members) → MembersCost (members_cost found + tokens_cost (members_tokens ms)) (of_members ms found)
  of_members-cost json.no_members found = omega arith
  of_members-cost (json.member k j ms) found =
      then_members (tokens_cost (json_tokens j)) _ (of_json j) (λ d. of_members ms (put k d found)) (of_json-cost j)
      (λ d le. weaker (members_cost (put k d found) + tokens_cost (members_tokens ms)) _ (of_members ms (put k d found)) (of_members-cost ms (put k d found))
      (omega (arith, le, put-cost k d found, tokens_cost-append (json_tokens j) (members_tokens ms))))

-- ---- a text

fewer : (n m : ℕ) (o : Option Data) → Costs n o → n ≤ m → Costs m o
fewer n m None h le = tt
fewer n m (Some d) h le = omega arith

of_read : (text : List ℕ) (o : Option (json.Json × List Token)) → ((j : json.Json) (rest : List Token) → o ≡ Some (j, rest) → tokens text ≡ json_tokens j ++ rest)
    → Costs (16 * length text + 8) (option_and_then of_json (option_and_then (λ p. json.if_last p.0 p.1) o))
of_read text None h = tt
of_read text (Some (j, t ∷ rest)) h = tt
of_read text (Some (j, [])) h =
    fewer (tokens_cost (json_tokens j)) _ (of_json j) (of_json-cost j) (omega (arith, ap tokens_cost (h j [] refl), tokens_cost-append (json_tokens j) [], tokens-afforded text))

pub read-cost : (text : List ℕ) → Costs (16 * length text + 8) (read text)
read-cost text = of_read text (json.value max_depth (tokens text)) (λ j rest e. value-json_tokens_back max_depth (tokens text) rest j e)
