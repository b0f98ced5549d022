-- What a page holds: marks, a bit a version, and slots, in which the values of one kind stand.
use Rattle.std.specs.Prelude.{◌≡◌, ℕ, pos, ◌<◌, ◌/◌, ◌%◌, List, [], length, Bool, true, false, Option, Some, None, if◌then◌else◌, slice_index_or}
use Rattle.doc_values.specs.declared.kind.Kind as kind
use Rattle.doc_values.specs.declared.value.Value as value
use Rattle.doc_values.specs.Value.{IsStorable}
use Rattle.phys_columns.specs.declared.marks.Marks.{Marks}
use Rattle.phys_columns.specs.declared.slots.Slots as slots
use Rattle.phys_columns.specs.declared.page.Page.{Page}
use Rattle.phys_columns.specs.Filtered.{is_bit}

-- How many versions a page is for.
abbrev pub page_len : ℕ
page_len = 1024

-- The bit of the version at a place of the page.
abbrev pub is_marked : Marks → ℕ → Bool
is_marked marks place = is_bit marks.words (place / 64) (place % 64)

-- The kind of the values in the slots.
abbrev pub kind_in : slots.Slots → kind.Kind
kind_in (slots.TheVariants.Truths truths) = kind.TheVariants.Bool
kind_in (slots.TheVariants.Numbers numbers) = kind.TheVariants.Int
kind_in (slots.TheVariants.Texts texts) = kind.TheVariants.Text
kind_in (slots.TheVariants.Arrays texts) = kind.TheVariants.Array
kind_in slots.TheVariants.Objects = kind.TheVariants.Object

-- What stands in the slot at a place.
abbrev pub value_in : slots.Slots → ℕ → value.Value
value_in (slots.TheVariants.Truths truths) place = value.TheVariants.Bool (is_marked truths.value place)
value_in (slots.TheVariants.Numbers numbers) place = value.TheVariants.Int (slice_index_or numbers.items place (pos 0))
value_in (slots.TheVariants.Texts texts) place = value.TheVariants.Text (slice_index_or texts.items place [])
value_in (slots.TheVariants.Arrays texts) place = value.TheVariants.Array (slice_index_or texts.items place [])
value_in slots.TheVariants.Objects place = value.TheVariants.Object

-- The text in the slot at a place, which is empty where the slots are of another kind.
abbrev pub text_in : slots.Slots → ℕ → List ℕ
text_in (slots.TheVariants.Truths truths) place = []
text_in (slots.TheVariants.Numbers numbers) place = []
text_in (slots.TheVariants.Texts texts) place = slice_index_or texts.items place []
text_in (slots.TheVariants.Arrays texts) place = slice_index_or texts.items place []
text_in slots.TheVariants.Objects place = []

-- How many slots there are; truths and objects have one for every version of a page.
abbrev pub slots_len : slots.Slots → ℕ
slots_len (slots.TheVariants.Truths truths) = page_len
slots_len (slots.TheVariants.Numbers numbers) = length numbers.items
slots_len (slots.TheVariants.Texts texts) = length texts.items
slots_len (slots.TheVariants.Arrays texts) = length texts.items
slots_len slots.TheVariants.Objects = page_len

-- There is a slot for each version of the page.
abbrev pub AreSlots : slots.Slots → Type 0
AreSlots slots = slots_len slots ≡ page_len

-- The value that stands at a place of a page, if it is marked.
abbrev pub value_at : Page → ℕ → Option value.Value
value_at page place = if is_marked page.marks place then Some (value_in page.slots place) else None

-- A page is as long as pages are, its slots hold what may be stored, and where no value stands it keeps no text.
pub record IsPage (page : Page) : Type 0 where
  pub whole : AreSlots page.slots
  pub storable : (place : ℕ) → IsStorable (value_in page.slots place)
  pub bare : (place : ℕ) → place < page_len → is_marked page.marks place ≡ false → text_in page.slots place ≡ []

-- A value stands in the page.
abbrev pub Holds : Page → Type 0
Holds page = (place : ℕ) × (place < page_len) × (is_marked page.marks place ≡ true)
