-- The state of a line among the tables of all functions, and where the tables are read.
use Rattle.std.proofs.Common.{◌≡◌, ℕ, ◌<◌, Option, Some, List, []}
use Rattle.std.proofs.Common.{◌∷◌, length, map, slice_set, slice_index_or, sym}
use Rattle.std.proofs.Common.{subst, ap, ◌∙◌, arith}
use Rattle.std.proofs.lemmas.Option.{slice_get_within, get_or_from_slice_get}
use Rattle.std.specs.List.{slice_get}
use Rattle.sw_partition.specs.Regions.{Regions, size_of}
use Rattle.sw_region_flow.proofs.Places.{element_at}
use Rattle.sw_cert.proofs.Forming.{size_parts, extent_is}
use Rattle.sw_cert.specs.Certificate.{IsLineOf}
use Rattle.sw_cert.specs.Flows.{AreSized, extent_for}
use Rattle.sw_cert.specs.Reading.{states_of}
use Rattle.sw_cert.specs.Shown.{Shows}
use Rattle.sw_cert.specs.Tables.{HavePlaces, IsLineIn, IsTabled}
use Rattle.sw_cert.specs.declared.flows.FunctionFlow.{FunctionFlow}
use Rattle.sw_cert.specs.declared.line.Line.{Line}

-- ---- look-ups
pub at_get : {X : Type 0} (xs : List X) (n : ℕ) (x : X) → n < length xs
    → x ≡ slice_index_or xs n x → slice_get xs n ≡ Some x
at_get xs n x within e =
    let h = element_at xs n within in
    h.1 ∙ ap Some (sym (get_or_from_slice_get xs n h.0 x h.1) ∙ sym e)

pub states_there : (tables : List (List (Option Regions))) (n : ℕ) (table : List (Option Regions))
    → n < length tables → table ≡ slice_index_or tables n table → table ≡ states_of tables n
states_there tables n table within e =
    sym (get_or_from_slice_get tables n table [] (at_get tables n table within e))

-- ---- a line of one of the functions
module _ (flows : List FunctionFlow) (sized : AreSized flows) (line : Line)
    (is : IsLineIn (map extent_for flows) line) (d : FunctionFlow) where
  parts : (flow : FunctionFlow) × (slice_get flows line.function ≡ Some flow)
      × (extent_for flow ≡ is.extent)
  parts = extent_is flows line.function is.extent is.is_extent

  found : slice_index_or flows line.function d ≡ parts.0
  found = get_or_from_slice_get flows line.function parts.0 d parts.1

  fits : IsLineOf (extent_for parts.0) line
  fits = subst (λ e. IsLineOf e line) (sym parts.2) is.fits

  pub entry_some : (n : ℕ) → n ≡ length (slice_index_or flows line.function d).entry.labels → 0 < n
  entry_some n e =
      let h = size_parts parts.0 (sized line.function parts.0 parts.1) in
      omega (arith, e, ap (λ f. length f.entry.labels) found, h.0)

  pub entry_line : (n : ℕ) (sites : List ℕ)
      → n ≡ length (slice_index_or flows line.function d).entry.labels
      → sites ≡ (slice_index_or flows line.function d).entry.sites
      → (x : ℕ) × IsLineOf (record { blocks = x; elements = n; sites = sites }) line
  entry_line n sites e e_sites = (
    length parts.0.blocks.setting.body.blocks,
    subst (λ m. IsLineOf (record {
      blocks = length parts.0.blocks.setting.body.blocks;
      elements = m;
      sites = sites;
    }) line) (sym (e ∙ ap (λ f. length f.entry.labels) found))
        (subst (λ s. IsLineOf (record {
          blocks = length parts.0.blocks.setting.body.blocks;
          elements = length parts.0.entry.labels;
          sites = s;
        }) line) (sym (e_sites ∙ ap (λ f. f.entry.sites) found)) fits),
  )

  pub function_within : (count : ℕ) → count ≡ length flows → line.function < count
  function_within count e =
      let h = slice_get_within flows line.function parts.0 parts.1 in omega (arith, h, e)

  pub block_within : (tables : List (List (Option Regions))) (table : List (Option Regions))
      → HavePlaces flows tables → slice_get tables line.function ≡ Some table
      → line.block < length table
  block_within tables table places there =
      let count = places line.function parts.0 parts.1 in
      let same = get_or_from_slice_get tables line.function table [] there in
      omega (arith, count, ap length same, fits.block)

  pub tabled : (tables : List (List (Option Regions))) (table new : List (Option Regions))
      (n : ℕ) (sites : List ℕ) (state : Regions)
      → n ≡ length (slice_index_or flows line.function d).entry.labels
      → sites ≡ (slice_index_or flows line.function d).entry.sites
      → size_of state ≡ n ∷ sites → Shows line state
      → slice_get tables line.function ≡ Some table
      → new ≡ slice_set table line.block (Some state)
      → IsTabled flows line tables (slice_set tables line.function new)
  tabled tables table new n sites state e e_sites size shows there puts = record {
    flow = parts.0;
    is_flow = parts.1;
    room = fits.block;
    state = state;
    shows = shows;
    size = size ∙ ap (λ m. m ∷ sites) (e ∙ ap (λ f. length f.entry.labels) found)
        ∙ ap (λ s. length parts.0.entry.labels ∷ s) (e_sites ∙ ap (λ f. f.entry.sites) found);
    value = ap (λ t. slice_set tables line.function t) (puts
        ∙ ap (λ t. slice_set t line.block (Some state))
        (sym (get_or_from_slice_get tables line.function table [] there)));
  }
