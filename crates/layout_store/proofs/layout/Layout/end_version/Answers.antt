use Rattle.std.proofs.Common.{◌≡◌, ◌≤◌, None, IfSome, length, slice_get, refl, ap, sym, subst, arith}
use Rattle.std.proofs.lemmas.Option.{slice_get_within}
use Rattle.row_versions.specs.declared.version.Version.{Version}
use Rattle.row_versions.proofs.Places.{get-within}
use Rattle.layout_store.specs.Storage.{Storage}
use Rattle.layout_store.proofs.Ended.{lower-known, lower-apart, lower-counted, lowers-held, ended-layout, ended-shows}
use Rattle.layout_store.proofs.Lists.{item-read, if-some, if-there}
use Rattle.layout_store.proofs.layout.Layout.end_version.Goals as goal

pub lower_all-requires-clause-known : goal.lower_all-requires-clause-known
lower_all-requires-clause-known c =
    let s : Storage = record { attributes = c.self.inside.catalog; history = c.self.inside.versions; records = c.self.inside.records.items; cells = c.self.inside.columns.cells } in
    let there = item-read s.records s.records c.args.version.0 c.index.result.now refl (omega (arith, c.requires.within, ap (λ (x : Storage). length x.history.versions) c.self.view_is, c.self.invariant.0.placed.recorded)) c.index.ensures in
    let v = get-within s.history.versions c.args.version.0 (omega (arith, c.requires.within, ap (λ (x : Storage). length x.history.versions) c.self.view_is)) in
    let told : IfSome (slice_get s.history.versions c.args.version.0) (λ (x : Version). (x.end ≡ None) × (x.begin ≤ c.args.commit)) = subst (λ (x : Storage). IfSome (slice_get x.history.versions c.args.version.0) (λ (y : Version). (y.end ≡ None) × (y.begin ≤ c.args.commit))) (sym c.self.view_is) c.requires.endless in
    let open_now = if-some (slice_get s.history.versions c.args.version.0) (λ (x : Version). (x.end ≡ None) × (x.begin ≤ c.args.commit)) v.0 v.1 told in
    lower-known s c.self.invariant.0 c.args.version.0 c.args.commit v.0 v.1 open_now.0 c.index.result.now there

pub lower_all-requires-clause-apart : goal.lower_all-requires-clause-apart
lower_all-requires-clause-apart c =
    let s : Storage = record { attributes = c.self.inside.catalog; history = c.self.inside.versions; records = c.self.inside.records.items; cells = c.self.inside.columns.cells } in
    let there = item-read s.records s.records c.args.version.0 c.index.result.now refl (omega (arith, c.requires.within, ap (λ (x : Storage). length x.history.versions) c.self.view_is, c.self.invariant.0.placed.recorded)) c.index.ensures in
    let v = get-within s.history.versions c.args.version.0 (omega (arith, c.requires.within, ap (λ (x : Storage). length x.history.versions) c.self.view_is)) in
    let told : IfSome (slice_get s.history.versions c.args.version.0) (λ (x : Version). (x.end ≡ None) × (x.begin ≤ c.args.commit)) = subst (λ (x : Storage). IfSome (slice_get x.history.versions c.args.version.0) (λ (y : Version). (y.end ≡ None) × (y.begin ≤ c.args.commit))) (sym c.self.view_is) c.requires.endless in
    let open_now = if-some (slice_get s.history.versions c.args.version.0) (λ (x : Version). (x.end ≡ None) × (x.begin ≤ c.args.commit)) v.0 v.1 told in
    lower-apart s c.self.invariant.0 c.args.version.0 c.args.commit v.0 v.1 open_now.0 c.index.result.now there

pub lower_all-requires-clause-counted : goal.lower_all-requires-clause-counted
lower_all-requires-clause-counted c =
    let s : Storage = record { attributes = c.self.inside.catalog; history = c.self.inside.versions; records = c.self.inside.records.items; cells = c.self.inside.columns.cells } in
    let there = item-read s.records s.records c.args.version.0 c.index.result.now refl (omega (arith, c.requires.within, ap (λ (x : Storage). length x.history.versions) c.self.view_is, c.self.invariant.0.placed.recorded)) c.index.ensures in
    let v = get-within s.history.versions c.args.version.0 (omega (arith, c.requires.within, ap (λ (x : Storage). length x.history.versions) c.self.view_is)) in
    let told : IfSome (slice_get s.history.versions c.args.version.0) (λ (x : Version). (x.end ≡ None) × (x.begin ≤ c.args.commit)) = subst (λ (x : Storage). IfSome (slice_get x.history.versions c.args.version.0) (λ (y : Version). (y.end ≡ None) × (y.begin ≤ c.args.commit))) (sym c.self.view_is) c.requires.endless in
    let open_now = if-some (slice_get s.history.versions c.args.version.0) (λ (x : Version). (x.end ≡ None) × (x.begin ≤ c.args.commit)) v.0 v.1 told in
    lower-counted s c.self.invariant.0 c.args.version.0 c.args.commit v.0 v.1 open_now.0 c.index.result.now there

pub lower_all-requires-clause-listed : goal.lower_all-requires-clause-listed
lower_all-requires-clause-listed c = c.self.invariant.1 c.args.version.0

pub lower_all-requires-clause-celled : goal.lower_all-requires-clause-celled
lower_all-requires-clause-celled c = λ id value e. let cell = c.self.invariant.0.placed.celled c.args.version.0 id value e in slice_get_within c.self.inside.catalog id cell.attribute cell.there

pub invariant_of-self : goal.invariant_of-self
invariant_of-self c =
    let s : Storage = record { attributes = c.self.inside.catalog; history = c.self.inside.versions; records = c.self.inside.records.items; cells = c.self.inside.columns.cells } in
    let there = item-read s.records s.records c.args.version.0 c.index.result.now refl (omega (arith, c.requires.within, ap (λ (x : Storage). length x.history.versions) c.self.view_is, c.self.invariant.0.placed.recorded)) c.index.ensures in
    let v = get-within s.history.versions c.args.version.0 (omega (arith, c.requires.within, ap (λ (x : Storage). length x.history.versions) c.self.view_is)) in
    let told : IfSome (slice_get s.history.versions c.args.version.0) (λ (x : Version). (x.end ≡ None) × (x.begin ≤ c.args.commit)) = subst (λ (x : Storage). IfSome (slice_get x.history.versions c.args.version.0) (λ (y : Version). (y.end ≡ None) × (y.begin ≤ c.args.commit))) (sym c.self.view_is) c.requires.endless in
    let open_now = if-some (slice_get s.history.versions c.args.version.0) (λ (x : Version). (x.end ≡ None) × (x.begin ≤ c.args.commit)) v.0 v.1 told in
    let lowers = lowers-held s c.self.invariant.0 c.args.version.0 c.args.commit v.0 v.1 open_now.0 c.index.result.now there c.lower_all.new.catalog c.lower_all.ensures.exact in
    (rw c.end_at.ensures.exact (ended-layout s c.self.invariant.0 c.args.version.0 c.args.commit v.0 v.1 open_now.0 c.lower_all.new.catalog lowers), c.self.invariant.1)

pub returns-clause-exact : goal.returns-clause-exact
returns-clause-exact c =
    let s : Storage = record { attributes = c.self.inside.catalog; history = c.self.inside.versions; records = c.self.inside.records.items; cells = c.self.inside.columns.cells } in
    let there = item-read s.records s.records c.args.version.0 c.index.result.now refl (omega (arith, c.requires.within, ap (λ (x : Storage). length x.history.versions) c.self.view_is, c.self.invariant.0.placed.recorded)) c.index.ensures in
    let v = get-within s.history.versions c.args.version.0 (omega (arith, c.requires.within, ap (λ (x : Storage). length x.history.versions) c.self.view_is)) in
    let told : IfSome (slice_get s.history.versions c.args.version.0) (λ (x : Version). (x.end ≡ None) × (x.begin ≤ c.args.commit)) = subst (λ (x : Storage). IfSome (slice_get x.history.versions c.args.version.0) (λ (y : Version). (y.end ≡ None) × (y.begin ≤ c.args.commit))) (sym c.self.view_is) c.requires.endless in
    let open_now = if-some (slice_get s.history.versions c.args.version.0) (λ (x : Version). (x.end ≡ None) × (x.begin ≤ c.args.commit)) v.0 v.1 told in
    let lowers = lowers-held s c.self.invariant.0 c.args.version.0 c.args.commit v.0 v.1 open_now.0 c.index.result.now there c.lower_all.new.catalog c.lower_all.ensures.exact in
    rw (c.end_at.ensures.exact, ← c.self.view_is) (record { attributes = lowers; history = refl; records = refl; cells = refl })

pub returns-clause-shows : goal.returns-clause-shows
returns-clause-shows c =
    let s : Storage = record { attributes = c.self.inside.catalog; history = c.self.inside.versions; records = c.self.inside.records.items; cells = c.self.inside.columns.cells } in
    let there = item-read s.records s.records c.args.version.0 c.index.result.now refl (omega (arith, c.requires.within, ap (λ (x : Storage). length x.history.versions) c.self.view_is, c.self.invariant.0.placed.recorded)) c.index.ensures in
    let v = get-within s.history.versions c.args.version.0 (omega (arith, c.requires.within, ap (λ (x : Storage). length x.history.versions) c.self.view_is)) in
    let told : IfSome (slice_get s.history.versions c.args.version.0) (λ (x : Version). (x.end ≡ None) × (x.begin ≤ c.args.commit)) = subst (λ (x : Storage). IfSome (slice_get x.history.versions c.args.version.0) (λ (y : Version). (y.end ≡ None) × (y.begin ≤ c.args.commit))) (sym c.self.view_is) c.requires.endless in
    let open_now = if-some (slice_get s.history.versions c.args.version.0) (λ (x : Version). (x.end ≡ None) × (x.begin ≤ c.args.commit)) v.0 v.1 told in
    let lowers = lowers-held s c.self.invariant.0 c.args.version.0 c.args.commit v.0 v.1 open_now.0 c.index.result.now there c.lower_all.new.catalog c.lower_all.ensures.exact in
    let shows = ended-shows s c.self.invariant.0 c.args.version.0 c.args.commit v.0 v.1 open_now.0 c.lower_all.new.catalog lowers (c.endings_show.ensures.law c.args.version.0 c.args.commit v.0 s.history.versions c.keeps_order.ensures.law.ordered v.1 open_now.0 open_now.1) in
    rw (c.end_at.ensures.exact, ← c.self.view_is) (if-there (slice_get s.history.versions c.args.version.0) _ v.0 v.1 shows)
