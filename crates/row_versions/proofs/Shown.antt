-- The versions that are stored, when one is read, put in, added or taken away.
use Rattle.std.proofs.Common.{◌≡◌, ℕ, zero, suc, ◌<◌, Bool, cond, ◌==◌, List, [], ◌∷◌, ◌++◌, length, map, set, Option, Some, None, IfSome, is_some, unwrap_or, slice_get, refl, sym, ap, ◌∙◌, arith}
use Rattle.std.proofs.lemmas.Bool.{ne_eqb}
use Rattle.std.proofs.lemmas.List.{map_push, length-map}
use Rattle.row_versions.specs.declared.version.Version.{Version}
use Rattle.row_versions.specs.declared.stored.Stored.{Stored}
use Rattle.row_versions.specs.declared.marks.Marks.{Marks}
use Rattle.row_versions.specs.Inside.{Linked, HasOneBehind}
use Rattle.row_versions.specs.Stored.{end_shown, shown, all_shown, no_place, link_shown, links_shown, stored_of, marks_of}

pub length-shown : (ss : List Stored) (ms : List Marks) → length ms ≡ length ss → length (all_shown ss ms) ≡ length ss
length-shown [] ms e = refl
length-shown (s ∷ ss) [] e = absurd (omega arith)
length-shown (s ∷ ss) (m ∷ ms) e = ap suc (length-shown ss ms (omega arith))

pub get-shown : (ss : List Stored) (ms : List Marks) (i : ℕ) (s : Stored) (m : Marks) → slice_get ss i ≡ Some s → slice_get ms i ≡ Some m → slice_get (all_shown ss ms) i ≡ Some (shown s m)
get-shown [] ms i s m at there = absurd (cc)
get-shown (x ∷ ss) [] i s m at there = absurd (cc)
get-shown (x ∷ ss) (y ∷ ms) zero s m at there = let a : x ≡ s = cc in let b : y ≡ m = cc in ap (λ z. Some (shown z y)) a ∙ ap (λ z. Some (shown s z)) b
get-shown (x ∷ ss) (y ∷ ms) (suc i) s m at there = get-shown ss ms i s m at there

pub set-shown : (ss : List Stored) (ms : List Marks) (i : ℕ) (s : Stored) (m : Marks) → length ms ≡ length ss → all_shown (set ss i s) (set ms i m) ≡ set (all_shown ss ms) i (shown s m)
set-shown [] [] i s m e = refl
set-shown [] (y ∷ ms) i s m e = absurd (omega arith)
set-shown (x ∷ ss) [] i s m e = absurd (omega arith)
set-shown (x ∷ ss) (y ∷ ms) zero s m e = refl
set-shown (x ∷ ss) (y ∷ ms) (suc i) s m e = ap (λ l. shown x y ∷ l) (set-shown ss ms i s m (omega arith))

pub push-shown : (ss : List Stored) (ms : List Marks) (s : Stored) (m : Marks) → length ms ≡ length ss → all_shown (ss ++ s ∷ []) (ms ++ m ∷ []) ≡ all_shown ss ms ++ shown s m ∷ []
push-shown [] [] s m e = refl
push-shown [] (y ∷ ms) s m e = absurd (omega arith)
push-shown (x ∷ ss) [] s m e = absurd (omega arith)
push-shown (x ∷ ss) (y ∷ ms) s m e = ap (λ l. shown x y ∷ l) (push-shown ss ms s m (omega arith))

-- ---- what was put in is what is seen

end_back : (o : Option ℕ) → end_shown (is_some o) (unwrap_or o 0) ≡ o
end_back None = refl
end_back (Some end) = refl

pub shown-back : (v : Version) (before : ℕ) → shown (record { begin = v.begin; end = unwrap_or v.end 0; row = v.row; before = before }) (marks_of v) ≡ v
shown-back v before = ap (λ (o : Option ℕ). record v { end = o }) (end_back v.end)

pub link-back : (v : Version) (o : Option ℕ) → IfSome o (λ place. place < no_place) → link_shown (stored_of v o) ≡ o
link-back v None h = refl
link-back v (Some place) h = ap (λ b. cond b None (Some place)) (ne_eqb place no_place (λ e. absurd (omega (arith, h))))

pub links-set : (ss : List Stored) (i : ℕ) (old s : Stored) → slice_get ss i ≡ Some old → s.before ≡ old.before → links_shown (set ss i s) ≡ links_shown ss
links-set [] i old s at same = absurd (cc)
links-set (x ∷ ss) zero old s at same = let is : old ≡ x = cc in ap (λ n. cond (n == no_place) None (Some n) ∷ links_shown ss) (same ∙ ap (λ (z : Stored). z.before) is)
links-set (x ∷ ss) (suc i) old s at same = ap (λ l. link_shown x ∷ l) (links-set ss i old s at same)

there_map : {X Y : Type 0} (f : X → Y) (xs : List X) (i : ℕ) (x : X) → slice_get xs i ≡ Some x → slice_get (map f xs) i ≡ Some (f x)
there_map f [] i x at = absurd (cc)
there_map f (y ∷ xs) zero x at = let is : y ≡ x = cc in ap (λ u. Some (f u)) is
there_map f (y ∷ xs) (suc i) x at = there_map f xs i x at

pub get-link : (ss : List Stored) (i : ℕ) (s : Stored) → slice_get ss i ≡ Some s → slice_get (links_shown ss) i ≡ Some (link_shown s)
get-link ss i s at = there_map link_shown ss i s at

-- one is taken from each list
pub pop-shown : (all front : Linked) (ss ss' : List Stored) (ms ms' : List Marks) (s : Stored) (m : Marks) → length ms ≡ length ss → ss ≡ ss' ++ s ∷ [] → ms ≡ ms' ++ m ∷ [] → length ms' ≡ length ss' → ◌≡◌ {A = Linked} (record { versions = all_shown ss ms; links = links_shown ss }) all → ◌≡◌ {A = Linked} (record { versions = all_shown ss' ms'; links = links_shown ss' }) front → HasOneBehind all front
pop-shown all front ss ss' ms ms' s m e a b f is was = record {
  version = shown s m;
  link = link_shown s;
  versions = ap (λ (l : Linked). l.versions) (sym is) ∙ ap (λ l. all_shown l ms) a ∙ ap (λ l. all_shown (ss' ++ s ∷ []) l) b ∙ push-shown ss' ms' s m f ∙ ap (λ (l : Linked). l.versions ++ shown s m ∷ []) was;
  links = ap (λ (l : Linked). l.links) (sym is) ∙ ap links_shown a ∙ map_push link_shown ss' s ∙ ap (λ (l : Linked). l.links ++ link_shown s ∷ []) was;
}

-- ---- what the code knows

abbrev pub seen : List Stored → List Marks → Linked
seen ss ms = record { versions = all_shown ss ms; links = links_shown ss }

abbrev shown_by : Stored → Marks → Bool → Version
shown_by s m z = record { row = s.row; begin = s.begin; end = end_shown z s.end; emptied = m.emptied }

pub read-shown : (now : Linked) (ss : List Stored) (ms : List Marks) (i : ℕ) (s : Stored) (m : Marks) (b : Bool) → slice_get ss i ≡ Some s → slice_get ms i ≡ Some m → m.ended ≡ b → seen ss ms ≡ now → slice_get now.versions i ≡ Some (record { row = s.row; begin = s.begin; end = end_shown b s.end; emptied = m.emptied })
read-shown now ss ms i s m b at there e is =
    ap (λ (l : Linked). slice_get l.versions i) (sym is) ∙ get-shown ss ms i s m at there ∙ ap (λ (z : Bool). Some (shown_by s m z)) e

pub within-shown : (now : Linked) (ss : List Stored) (ms : List Marks) → length ms ≡ length ss → seen ss ms ≡ now → length now.versions ≡ length ss
within-shown now ss ms e is = ap (λ (l : Linked). length l.versions) (sym is) ∙ length-shown ss ms e

pub links-many : (now : Linked) (ss : List Stored) (ms : List Marks) → length ms ≡ length ss → seen ss ms ≡ now → length now.links ≡ length now.versions
links-many now ss ms e is = ap (λ (l : Linked). length l.links) (sym is) ∙ length-map ss link_shown ∙ sym (within-shown now ss ms e is)

pub link-shown : (now : Linked) (ss : List Stored) (ms : List Marks) (i : ℕ) (s : Stored) (o : Option ℕ) → slice_get ss i ≡ Some s → o ≡ link_shown s → seen ss ms ≡ now → slice_get now.links i ≡ Some o
link-shown now ss ms i s o at e is = ap (λ (l : Linked). slice_get l.links i) (sym is) ∙ get-link ss i s at ∙ ap (λ z. Some z) (sym e)

pub pushed-shown : (now : Linked) (ss us : List Stored) (ms mid ns : List Marks) (v : Version) (o : Option ℕ) (s : Stored) (m : Marks) → length ms ≡ length ss → us ≡ ss ++ s ∷ [] → mid ≡ ms → ns ≡ mid ++ m ∷ [] → s ≡ stored_of v o → m ≡ marks_of v → IfSome o (λ place. place < no_place) → seen ss ms ≡ now
    → ◌≡◌ {A = Linked} (record { versions = all_shown us ns; links = links_shown us }) (record { versions = now.versions ++ v ∷ []; links = now.links ++ o ∷ [] })
pushed-shown now ss us ms mid ns v o s m e a b c f g near is = λ i. record { versions = versions i; links = links i }
  where
    versions : all_shown us ns ≡ now.versions ++ v ∷ []
    versions =
        ap (λ l. all_shown l ns) (a ∙ ap (λ z. ss ++ z ∷ []) f) ∙ ap (λ l. all_shown (ss ++ stored_of v o ∷ []) l) (c ∙ ap (λ l. l ++ m ∷ []) b ∙ ap (λ z. ms ++ z ∷ []) g)
        ∙ push-shown ss ms (stored_of v o) (marks_of v) e ∙ ap (λ z. all_shown ss ms ++ z ∷ []) (shown-back v (unwrap_or o no_place)) ∙ ap (λ (l : Linked). l.versions ++ v ∷ []) is

    links : links_shown us ≡ now.links ++ o ∷ []
    links =
        ap links_shown (a ∙ ap (λ z. ss ++ z ∷ []) f) ∙ map_push link_shown ss (stored_of v o) ∙ ap (λ z. links_shown ss ++ z ∷ []) (link-back v o near) ∙ ap (λ (l : Linked). l.links ++ o ∷ []) is

abbrev pub over : Stored → ℕ → Stored
over w before = record { begin = w.begin; end = w.end; row = w.row; before = before }

pub put-shown : (now : Linked) (ss : List Stored) (ms : List Marks) (i : ℕ) (old w : Stored) (v : Version) (m : Marks) → length ms ≡ length ss → slice_get ss i ≡ Some old → w ≡ stored_of v None → m ≡ marks_of v → seen ss ms ≡ now
    → ◌≡◌ {A = Linked} (record { versions = all_shown (set ss i (over w old.before)) (set ms i m); links = links_shown (set ss i (over w old.before)) }) (record { versions = set now.versions i v; links = now.links })
put-shown now ss ms i old w v m e at f g is = λ j. record { versions = versions j; links = links j }
  where
    back : shown (over w old.before) m ≡ v
    back = ap (λ a. shown (over a old.before) m) f ∙ ap (λ b. shown (over (stored_of v None) old.before) b) g ∙ shown-back v old.before

    versions : all_shown (set ss i (over w old.before)) (set ms i m) ≡ set now.versions i v
    versions = set-shown ss ms i (over w old.before) m e ∙ ap (λ z. set (all_shown ss ms) i z) back ∙ ap (λ (l : Linked). set l.versions i v) is

    links : links_shown (set ss i (over w old.before)) ≡ now.links
    links = links-set ss i old (over w old.before) at refl ∙ ap (λ (l : Linked). l.links) is
