-- What tokens and trees cost: never less than what they can weigh or print, and no more than what the text affords at 16 a byte.
use Rattle.std.proofs.Common.{◌≡◌, ℕ, ◌+◌, ◌*◌, List, [], ◌∷◌, ◌++◌, length, arith}
use Rattle.json.specs.Token.{Token, begin_object, end_object, begin_array, end_array, key, string, number, boolean, null, bad}
use Rattle.serde_json.specs.Data as tree

-- A string affords its quotes, and 16 for each of its bytes. A number may print longer than it is spelled, and so has half of the comma before it.
abbrev pub token_cost : Token → ℕ
token_cost begin_object = 16
token_cost end_object = 16
token_cost begin_array = 16
token_cost end_array = 16
token_cost (key s) = 16 + 16 * length s
token_cost (string s) = 16 + 16 * length s
token_cost (number s) = 24
token_cost (boolean b) = 16
token_cost null = 16
token_cost bad = 0

abbrev pub tokens_cost : List Token → ℕ
tokens_cost [] = 0
tokens_cost (t ∷ ts) = token_cost t + tokens_cost ts

pub tokens_cost-append : (xs ys : List Token) → tokens_cost (xs ++ ys) ≡ tokens_cost xs + tokens_cost ys
tokens_cost-append [] ys = omega arith
tokens_cost-append (x ∷ xs) ys = omega (arith, tokens_cost-append xs ys)

-- A tree costs what its tokens do.
abbrev mutual
  pub cost : tree.Data → ℕ
  cost tree.null = 16
  cost (tree.boolean b) = 16
  cost (tree.number n) = 24
  cost (tree.string s) = 16 + 16 * length s
  cost (tree.array ds) = 16 + items_cost ds
  cost (tree.object ms) = 16 + members_cost ms

  -- with the closing bracket
  pub items_cost : tree.Items → ℕ
  items_cost tree.no_items = 16
  items_cost (tree.item d ds) = cost d + items_cost ds

  pub members_cost : tree.Members → ℕ
  members_cost tree.no_members = 16
  members_cost (tree.member k d ms) = 16 + 16 * length k + cost d + members_cost ms
