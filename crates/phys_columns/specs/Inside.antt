-- How columns are kept: for each attribute its pages, in the order of their numbers.
use Rattle.std.specs.Prelude.{◌≡◌, ℕ, ◌+◌, ◌<◌, ◌≤◌, ◌/◌, ◌%◌, ◌==◌, List, [], ◌∷◌, length, Option, Some, None, if◌then◌else◌, slice_get, ⊤, ◌⊎◌, IfSome}
use Rattle.std.specs.Option.{option_map_or}
use Rattle.doc_values.specs.declared.kind.Kind as kind
use Rattle.doc_values.specs.declared.value.Value.{Value}
use Rattle.phys_columns.specs.declared.column.Column.{Column}
use Rattle.phys_columns.specs.declared.page.Page.{Page}
use Rattle.phys_columns.specs.declared.spare.Spare.{Spare}
use Rattle.phys_columns.specs.Cells.{Cells}
use Rattle.phys_columns.specs.Pages.{kind_in, value_at, IsPage, Holds}
use Rattle.phys_columns.specs.Seen.{cells_of}

-- How many pages a column may have, and how many versions are in them.
abbrev pub most_pages : ℕ
most_pages = 4194304

abbrev pub all_versions : ℕ
all_versions = 4294967296

-- The page with a number.
abbrev pub page_at : ℕ → List Page → Option Page
page_at number [] = None
page_at number (page ∷ pages) = if page.number == number then Some page else page_at number pages

-- The numbers of the pages rise from a least one on, and no page is past the last version; each is a page.
abbrev pub ArePages : ℕ → List Page → Type 0
ArePages least [] = ⊤
ArePages least (page ∷ pages) = (least ≤ page.number) × (page.number < most_pages) × IsPage page × ArePages (page.number + 1) pages

-- A page with the number would stand at a place: the numbers before are lower, and those from there on higher.
pub record FitsAt (number place : ℕ) (pages : List Page) : Type 0 where
  pub below : (k : ℕ) (page : Page) → k < place → slice_get pages k ≡ Some page → page.number < number
  pub above : (k : ℕ) (page : Page) → place ≤ k → slice_get pages k ≡ Some page → number < page.number

-- The value that stands in a version of a column.
abbrev pub column_value : List Page → ℕ → Option Value
column_value pages version = option_map_or (λ page. value_at page (version % 1024)) (page_at (version / 1024) pages) None

-- There is a page, and its values are of the kind.
abbrev pub IsOfKind : kind.Kind → Option Page → Type 0
IsOfKind of None = ⊥
IsOfKind of (Some page) = kind_in page.slots ≡ of

-- The pages of an attribute.
abbrev pub pages_of : ℕ → List Column → List Page
pages_of id columns = option_map_or (λ column. column.pages.items) (slice_get columns id) []

-- The value that stands in a cell.
abbrev pub value_of : List Column → ℕ → ℕ → Option Value
value_of columns id version = column_value (pages_of id columns) version

-- All cells.
unfoldable pub cells_in : List Column → Cells
cells_in columns = cells_of (value_of columns) (length columns) all_versions

-- The cell that has room reserved has its page, of the kind reserved.
abbrev pub HasRoom : List Column → Option Spare → Type 0
HasRoom columns None = ⊤
HasRoom columns (Some spare) = IsOfKind spare.kind (page_at (spare.version / 1024) (pages_of spare.id.0 columns))

-- The room is reserved in the page of an attribute with a number.
abbrev pub IsRoom : ℕ → ℕ → Option Spare → Type 0
IsRoom id number None = ⊥
IsRoom id number (Some spare) = (spare.id.0 ≡ id) × (spare.version / 1024 ≡ number)

-- Every column has pages in order, the reserved cell has its page, and every other page holds a value.
pub record AreColumns (columns : List Column) (spare : Option Spare) : Type 0 where
  pub paged : (id : ℕ) → ArePages 0 (pages_of id columns)
  pub room : HasRoom columns spare
  pub held : (id number : ℕ) → IfSome (page_at number (pages_of id columns)) (λ page. Holds page ⊎ IsRoom id number spare)
