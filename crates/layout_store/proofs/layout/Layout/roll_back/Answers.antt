use Rattle.std.proofs.Common.{◌≡◌, ℕ, ◌<◌, ◌≤◌, ◌∙◌, None, IfSome, length, slice_get, ap, sym, subst, arith}
use Rattle.row_versions.specs.declared.version.Version.{Version}
use Rattle.row_versions.specs.History.{History, rolled_back}
use Rattle.layout_store.specs.RolledBack.{HasRolledBack, ShowsAsBefore}
use Rattle.layout_store.specs.Storage.{Storage, held}
use Rattle.layout_store.proofs.Cleared.{listed-low}
use Rattle.layout_store.proofs.RollBack.{cut-unheld}
use Rattle.layout_store.proofs.RollKnown.{both-known, both-apart, raise-many, raise-fits, raise-up, take-within, take-few, take-held, take-down, layout-now, all-now, shows-now}
use Rattle.layout_store.proofs.layout.Layout.roll_back.Goals as goal

pub raise_reopened-requires : goal.raise_reopened-requires
raise_reopened-requires c =
    let s : Storage = record { attributes = c.self.inside.catalog; history = c.self.inside.versions; records = c.self.inside.records.items; cells = c.self.inside.columns.cells } in
    let k = c.keeps_order.ensures.law in
    let unheld : (version id : ℕ) → c.args.left ≤ id → IfSome (slice_get s.history.versions version) (λ (v : Version). v.begin < c.args.commit → held s version id ≡ None) =
    subst (λ (x : Storage). (version id : ℕ) → c.args.left ≤ id → IfSome (slice_get x.history.versions version) (λ (v : Version). v.begin < c.args.commit → held x version id ≡ None)) (sym c.self.view_is) c.requires.unheld in
    record {
      known = λ v id bytes f. (both-known s c.self.invariant.0 k c.args.commit c.args.left unheld c.deref.result.now c.deref.ensures.value v id bytes f).1;
      apart = both-apart s c.self.invariant.0 k c.args.commit c.args.left unheld c.deref.result.now c.deref.ensures.value;
      listed = c.self.invariant.1;
      many = raise-many s c.self.invariant.0 k c.args.commit c.args.left unheld c.deref.result.now c.deref.ensures.value;
      room = raise-fits s c.self.invariant.0 k c.args.commit c.args.left unheld c.deref.result.now c.deref.ensures.value;
    }

pub take_back-requires : goal.take_back-requires
take_back-requires c =
    let s : Storage = record { attributes = c.self.inside.catalog; history = c.self.inside.versions; records = c.self.inside.records.items; cells = c.self.inside.columns.cells } in
    let k = c.keeps_order.ensures.law in
    let unheld : (version id : ℕ) → c.args.left ≤ id → IfSome (slice_get s.history.versions version) (λ (v : Version). v.begin < c.args.commit → held s version id ≡ None) =
    subst (λ (x : Storage). (version id : ℕ) → c.args.left ≤ id → IfSome (slice_get x.history.versions version) (λ (v : Version). v.begin < c.args.commit → held x version id ≡ None)) (sym c.self.view_is) c.requires.unheld in
    let up = raise-up s c.self.invariant.0 k c.args.commit c.args.left unheld c.deref.result.now c.deref.ensures.value c.raise_reopened.new.catalog c.raise_reopened.ensures.exact in
    let is : c.len-len.result ≡ length (rolled_back c.args.commit s.history.versions) = c.len-len.ensures.exact ∙ ap (λ (x : History). length x.versions) c.roll_back.ensures.exact in
    record {
      known = λ v id bytes f. let w = both-known s c.self.invariant.0 k c.args.commit c.args.left unheld c.deref-2.result.now c.deref-2.ensures.value v id bytes f in (w.0, omega (arith, w.1, up.many));
      apart = both-apart s c.self.invariant.0 k c.args.commit c.args.left unheld c.deref-2.result.now c.deref-2.ensures.value;
      listed = c.self.invariant.1;
      within = take-within s c.self.invariant.0 k c.args.commit c.args.left unheld c.deref-2.result.now c.deref-2.ensures.value c.len-len.result is;
      few = take-few s c.self.invariant.0 k c.args.commit c.args.left unheld c.deref-2.result.now c.deref-2.ensures.value c.len-len.result is;
      held = take-held s c.self.invariant.0 k c.args.commit c.args.left unheld c.deref-2.result.now c.deref-2.ensures.value c.len-len.result is c.raise_reopened.new.catalog up;
    }

pub cut-requires : goal.cut-requires
cut-requires c =
    let s : Storage = record { attributes = c.self.inside.catalog; history = c.self.inside.versions; records = c.self.inside.records.items; cells = c.self.inside.columns.cells } in
    let k = c.keeps_order.ensures.law in
    let unheld : (version id : ℕ) → c.args.left ≤ id → IfSome (slice_get s.history.versions version) (λ (v : Version). v.begin < c.args.commit → held s version id ≡ None) =
    subst (λ (x : Storage). (version id : ℕ) → c.args.left ≤ id → IfSome (slice_get x.history.versions version) (λ (v : Version). v.begin < c.args.commit → held x version id ≡ None)) (sym c.self.view_is) c.requires.unheld in
    let up = raise-up s c.self.invariant.0 k c.args.commit c.args.left unheld c.deref.result.now c.deref.ensures.value c.raise_reopened.new.catalog c.raise_reopened.ensures.exact in
    let is : c.len-len.result ≡ length (rolled_back c.args.commit s.history.versions) = c.len-len.ensures.exact ∙ ap (λ (x : History). length x.versions) c.roll_back.ensures.exact in
    let down = take-down s c.self.invariant.0 k c.args.commit c.args.left unheld c.deref-2.result.now c.deref-2.ensures.value c.len-len.result is c.raise_reopened.new.catalog c.take_back.new.catalog up c.take_back.ensures.exact in
    let within : c.args.left ≤ length s.attributes = omega (arith, c.requires.within, ap (λ (x : Storage). length x.attributes) c.self.view_is) in
    record { within = omega (arith, within, down.many); unheld = cut-unheld s c.self.invariant.0 k c.args.commit c.args.left unheld c.take_back.new.catalog down }

pub invariant_of-self : goal.invariant_of-self
invariant_of-self c =
    let s : Storage = record { attributes = c.self.inside.catalog; history = c.self.inside.versions; records = c.self.inside.records.items; cells = c.self.inside.columns.cells } in
    let k = c.keeps_order.ensures.law in
    let unheld : (version id : ℕ) → c.args.left ≤ id → IfSome (slice_get s.history.versions version) (λ (v : Version). v.begin < c.args.commit → held s version id ≡ None) =
    subst (λ (x : Storage). (version id : ℕ) → c.args.left ≤ id → IfSome (slice_get x.history.versions version) (λ (v : Version). v.begin < c.args.commit → held x version id ≡ None)) (sym c.self.view_is) c.requires.unheld in
    let up = raise-up s c.self.invariant.0 k c.args.commit c.args.left unheld c.deref.result.now c.deref.ensures.value c.raise_reopened.new.catalog c.raise_reopened.ensures.exact in
    let is : c.len-len.result ≡ length (rolled_back c.args.commit s.history.versions) = c.len-len.ensures.exact ∙ ap (λ (x : History). length x.versions) c.roll_back.ensures.exact in
    let down = take-down s c.self.invariant.0 k c.args.commit c.args.left unheld c.deref-2.result.now c.deref-2.ensures.value c.len-len.result is c.raise_reopened.new.catalog c.take_back.new.catalog up c.take_back.ensures.exact in
    let within : c.args.left ≤ length s.attributes = omega (arith, c.requires.within, ap (λ (x : Storage). length x.attributes) c.self.view_is) in
    let pos : 0 < c.args.commit = omega (arith, c.requires.above) in
    (layout-now s c.self.invariant.0 k c.args.commit c.args.left unheld within pos c.len-len.result is c.take_back.new.catalog c.cut.new.self c.settle_marks.new.catalog down c.cut.ensures.exact c.settle_marks.ensures.exact c.take_back.new.columns.cells c.take_back.ensures.gone c.take_back.ensures.kept c.roll_back.new.self c.roll_back.ensures.exact c.truncate.new.self.items c.truncate.ensures.items, listed-low c.len-len.result c.self.inside.cell_ids c.self.inside.columns.cells c.take_back.new.columns.cells c.self.invariant.1 c.take_back.ensures.gone c.take_back.ensures.kept)

pub returns : goal.returns
returns c =
    let s : Storage = record { attributes = c.self.inside.catalog; history = c.self.inside.versions; records = c.self.inside.records.items; cells = c.self.inside.columns.cells } in
    let k = c.keeps_order.ensures.law in
    let unheld : (version id : ℕ) → c.args.left ≤ id → IfSome (slice_get s.history.versions version) (λ (v : Version). v.begin < c.args.commit → held s version id ≡ None) =
    subst (λ (x : Storage). (version id : ℕ) → c.args.left ≤ id → IfSome (slice_get x.history.versions version) (λ (v : Version). v.begin < c.args.commit → held x version id ≡ None)) (sym c.self.view_is) c.requires.unheld in
    let up = raise-up s c.self.invariant.0 k c.args.commit c.args.left unheld c.deref.result.now c.deref.ensures.value c.raise_reopened.new.catalog c.raise_reopened.ensures.exact in
    let is : c.len-len.result ≡ length (rolled_back c.args.commit s.history.versions) = c.len-len.ensures.exact ∙ ap (λ (x : History). length x.versions) c.roll_back.ensures.exact in
    let down = take-down s c.self.invariant.0 k c.args.commit c.args.left unheld c.deref-2.result.now c.deref-2.ensures.value c.len-len.result is c.raise_reopened.new.catalog c.take_back.new.catalog up c.take_back.ensures.exact in
    let within : c.args.left ≤ length s.attributes = omega (arith, c.requires.within, ap (λ (x : Storage). length x.attributes) c.self.view_is) in
    let pos : 0 < c.args.commit = omega (arith, c.requires.above) in
    let after : Storage = record { attributes = c.settle_marks.new.catalog; history = c.roll_back.new.self; records = c.truncate.new.self.items; cells = c.take_back.new.columns.cells } in
    record {
      exact = subst (λ (x : Storage). HasRolledBack c.args.commit c.args.left x after) c.self.view_is (all-now s c.self.invariant.0 k c.args.commit c.args.left unheld within pos c.len-len.result is c.take_back.new.catalog c.cut.new.self c.settle_marks.new.catalog down c.cut.ensures.exact c.settle_marks.ensures.exact c.take_back.new.columns.cells c.take_back.ensures.gone c.take_back.ensures.kept c.roll_back.new.self c.roll_back.ensures.exact c.truncate.new.self.items c.truncate.ensures.items);
      shows = subst (λ (x : Storage). ShowsAsBefore c.args.commit x after) c.self.view_is (shows-now s c.self.invariant.0 k c.args.commit c.args.left unheld within pos c.len-len.result is c.take_back.new.catalog c.cut.new.self c.settle_marks.new.catalog down c.cut.ensures.exact c.settle_marks.ensures.exact c.take_back.new.columns.cells c.take_back.ensures.gone c.take_back.ensures.kept c.roll_back.new.self c.roll_back.ensures.exact c.truncate.new.self.items c.truncate.ensures.items (c.roll_backs_show.ensures.law.shows c.args.commit s.history.versions k.ordered));
    }
