-- What holds of the document of each admitted object holds of each document of a text.
use Rattle.std.proofs.Common.{◌≡◌, ℕ, ◌+◌, List, Bool, true, false, cond, Option, Some, None, Result, Ok, Err, All, refl, subst}
use Rattle.std.proofs.lemmas.List.Elements.{All-from_recursion}
use Rattle.std.specs.Prelude.{⊤}
use Rattle.std.specs.List.{AllByRecursion}
use Rattle.serde_json.specs.Data.{Data, null, boolean, number, string, array, object, Items, no_items, item, Members}
use Rattle.serde_json.specs.Read.{read}
use Rattle.doc_values.specs.Doc.{Fields}
use Rattle.doc_flatten.specs.Documents.{document_of_members, is_admitted, document_of, are_objects, behind, documents_from, documents_or_unread, documents_of}

-- ---- what is known of the members of each object that may be a document

abbrev pub FitsTree : (Members → Type 0) → Data → Type 0
FitsTree Fits (object ms) = Fits ms
FitsTree Fits null = ⊤
FitsTree Fits (boolean b) = ⊤
FitsTree Fits (number n) = ⊤
FitsTree Fits (string s) = ⊤
FitsTree Fits (array ds) = ⊤

abbrev pub AllFit : (Members → Type 0) → Items → Type 0
AllFit Fits no_items = ⊤
AllFit Fits (item d ds) = FitsTree Fits d × AllFit Fits ds

abbrev pub FitsWhole : (Members → Type 0) → Option Data → Type 0
FitsWhole Fits None = ⊤
FitsWhole Fits (Some (object ms)) = AllFit Fits (item (object ms) no_items)
FitsWhole Fits (Some (array ds)) = AllFit Fits ds
FitsWhole Fits (Some null) = ⊤
FitsWhole Fits (Some (boolean b)) = ⊤
FitsWhole Fits (Some (number n)) = ⊤
FitsWhole Fits (Some (string s)) = ⊤

module _ (Fits : Members → Type 0) (Holds : Fields → Type 0) (admitted : (ms : Members) → Fits ms → is_admitted ms ≡ true → Holds (document_of_members ms)) where
  of_object : (b : Bool) (ms : Members) (doc : Fields) → Fits ms → is_admitted ms ≡ b → cond b (Some (document_of_members ms)) None ≡ Some doc → Holds doc
  of_object false ms doc fits same e = absurd (cc)
  of_object true ms doc fits same e = let is : document_of_members ms ≡ doc = cc in subst Holds is (admitted ms fits same)

  of_tree : (d : Data) (doc : Fields) → FitsTree Fits d → document_of d ≡ Some doc → Holds doc
  of_tree (object ms) doc fits e = of_object (is_admitted ms) ms doc fits refl e
  of_tree null doc fits e = absurd (cc)
  of_tree (boolean b) doc fits e = absurd (cc)
  of_tree (number n) doc fits e = absurd (cc)
  of_tree (string s) doc fits e = absurd (cc)
  of_tree (array ds) doc fits e = absurd (cc)

  abbrev HoldsOfAll : Result (List Fields) ℕ → Type 0
  HoldsOfAll (Ok docs) = AllByRecursion Holds docs
  HoldsOfAll (Err at) = Unit {0}

  of_behind : (at : ℕ) (found : Option Fields) (more : Result (List Fields) ℕ) → ((doc : Fields) → found ≡ Some doc → Holds doc) → HoldsOfAll more → HoldsOfAll (behind at found more)
  of_behind at None more p q = tt
  of_behind at (Some doc) (Ok more) p q = (p doc refl, q)
  of_behind at (Some doc) (Err later) p q = tt

  of_items : (at : ℕ) (ds : Items) → AllFit Fits ds → HoldsOfAll (documents_from at ds)
  of_items at no_items fits = tt
  of_items at (item d ds) fits = of_behind at (document_of d) (documents_from (at + 1) ds) (λ doc. of_tree d doc fits.0) (of_items (at + 1) ds fits.1)

  of_objects : (b : Bool) (ds : Items) → AllFit Fits ds → HoldsOfAll (cond b (documents_from 1 ds) (Err 0))
  of_objects true ds fits = of_items 1 ds fits
  of_objects false ds fits = tt

  of_whole : (o : Option Data) → FitsWhole Fits o → HoldsOfAll (documents_or_unread o)
  of_whole None fits = tt
  of_whole (Some (object ms)) fits = of_items 1 (item (object ms) no_items) fits
  of_whole (Some (array ds)) fits = of_objects (are_objects ds) ds fits
  of_whole (Some null) fits = tt
  of_whole (Some (boolean b)) fits = tt
  of_whole (Some (number n)) fits = tt
  of_whole (Some (string s)) fits = tt

  pub documents_of-each_fitting : (text : List ℕ) (docs : List Fields) → FitsWhole Fits (read text) → documents_of text ≡ Ok docs → All Holds docs
  documents_of-each_fitting text docs fits e = All-from_recursion Holds docs (subst HoldsOfAll e (of_whole (read text) fits))

-- ---- the same where nothing need be known

any_tree : (d : Data) → FitsTree (λ ms. ⊤) d
any_tree (object ms) = tt
any_tree null = tt
any_tree (boolean b) = tt
any_tree (number n) = tt
any_tree (string s) = tt
any_tree (array ds) = tt

any_items : (ds : Items) → AllFit (λ ms. ⊤) ds
any_items no_items = tt
any_items (item d ds) = (any_tree d, any_items ds)

any_whole : (o : Option Data) → FitsWhole (λ ms. ⊤) o
any_whole None = tt
any_whole (Some (object ms)) = (tt, tt)
any_whole (Some (array ds)) = any_items ds
any_whole (Some null) = tt
any_whole (Some (boolean b)) = tt
any_whole (Some (number n)) = tt
any_whole (Some (string s)) = tt

pub documents_of-each : (Holds : Fields → Type 0) → ((ms : Members) → is_admitted ms ≡ true → Holds (document_of_members ms)) → (text : List ℕ) (docs : List Fields) → documents_of text ≡ Ok docs → All Holds docs
documents_of-each Holds admitted text docs e = documents_of-each_fitting (λ ms. ⊤) Holds (λ ms fits. admitted ms) text docs (any_whole (read text)) e
