-- A graph has a certificate, whatever its length: the lines so far go on to one.
use Rattle.std.proofs.Common.{◌≡◌, ℕ, zero, suc, ◌+◌, ◌-◌, ◌<◌, ◌≤◌, inl, inr, Option, Some, None, List, [], ◌∷◌}
use Rattle.std.proofs.Common.{◌++◌, length, get_or, Contains, refl, sym, subst, ap, ◌∙◌, arith, length-append}
use Rattle.std.proofs.Common.{Bool, true, false}
use Rattle.std.proofs.lemmas.Bool.{cases_lt}
use Rattle.std.proofs.lemmas.Option.{get_or_from_slice_get}
use Rattle.std.specs.List.{slice_get}
use Rattle.std.specs.List.Sorted.{IsStrictlyIncreasing}
use Rattle.sw_dictation.specs.Lines.{line_text, closer_before}
use Rattle.sw_dictation.specs.Numbers.{spelled}
use Rattle.sw_dictation.specs.Numerals.{numeral}
use Rattle.sw_graph.specs.declared.function.Function.{Function}
use Rattle.sw_graph.specs.declared.function.TheConstants.{MAX_POINTS}
use Rattle.sw_graph.specs.declared.graph.Graph.{Graph}
use Rattle.sw_partition.specs.Regions.{Regions}
use Rattle.sw_region_flow.proofs.Places.{element_at}
use Rattle.sw_region_flow.specs.Analysis.{IsLeastOfFunction}
use Rattle.sw_region_ops.specs.Setting.{setting_of}
use Rattle.sw_solve.specs.Annotation.{value_at}
use Rattle.sw_cert_making.proofs.Assembling.{lines_start, lines_more, made_start, made_more}
use Rattle.sw_cert_making.proofs.Assembling.{made_all}
use Rattle.sw_cert_making.proofs.LeastBlocks.{some_of_function, stands_on_way}
use Rattle.sw_cert_making.proofs.LeastLines.{state_sites}
use Rattle.sw_cert_making.proofs.Lined.{some_line}
use Rattle.sw_region_flow.proofs.Leasts.{some_sites}
use Rattle.sw_cert.specs.Certificate.{numbers_of, pair_numbers}
use Rattle.sw_cert_making.specs.Made.{AreLinesAdded, AreLinesWithin, IsFunctionAdded}
use Rattle.sw_cert_making.specs.Made.{IsFunctionBegun, IsFunctionWithin, IsMadeBelow}
use Rattle.sw_cert_making.specs.Printed.{IsLeastCertificate}
use Rattle.sw_cert.specs.ReadLines.{text_of}
use Rattle.sw_cert.specs.declared.line.Line.{Line}
use Rattle.sw_cert.specs.declared.verdict.TheConstants.{CERTIFICATE_LIMIT}

-- ---- the text of lines grows
lines_longer : (line : Line) (lines : List Line) → 0 < length (text_of (line ∷ lines))
lines_longer line lines = omega (
  arith,
  length-append (line_text (numbers_of line)) (text_of lines),
  begins line.function
      (line.block ∷ length line.classes
      ∷ (line.classes ++ length line.pairs ∷ pair_numbers line.pairs)),
)
  where
    begins : (n : ℕ) (ns : List ℕ) → 0 < length (line_text (n ∷ ns))
    begins n ns = omega (
      arith,
      length-append (spelled n (closer_before ns)) (line_text ns),
      length-append (numeral n) (closer_before ns ∷ []),
    )

-- a function adds at least a byte
function_longer : (graph : Graph) (function : ℕ) (body : Function) (old new : List ℕ)
    → slice_get graph.functions function ≡ Some body
    → IsFunctionAdded graph function body old new → length old < length new
function_longer graph function body old new is more =
    let some = stands_on_way (record {
      setting = setting_of graph body;
      sites = more.least.sites;
    }) more.states more.least.least.closed 0 0 refl in
    let has = more.added.all 0 more.least.fits.begins some in
    let longer = by more.added.lines has.line has.is_line in
    omega (arith, longer, ap length more.added.added, length-append old (text_of more.added.lines))
  where
    by : (lines : List Line) (line : Line) → Contains lines line → 0 < length (text_of lines)
    by [] line (k, within, e) = absurd (omega (arith, within))
    by (first ∷ lines) line has = lines_longer first lines

-- ---- what is added can be added
module _ (graph : Graph) (number : ℕ) (body : Function)
    (is : slice_get graph.functions number ≡ Some body) (states : List (Option Regions))
    (least : IsLeastOfFunction (setting_of graph body) states) (old : List ℕ) where
  one_block : (count : ℕ) (was : List ℕ) → AreLinesAdded number states count old was
      → (new : List ℕ) × AreLinesAdded number states (count + 1) old new × (length was ≤ length new)
  one_block count was so_far = by (value_at states count) refl
    where
      by : (o : Option Regions) → value_at states count ≡ o
          → (new : List ℕ) × AreLinesAdded number states (count + 1) old new
          × (length was ≤ length new)
      by None e = (was, lines_more number states count None old was was e so_far refl, omega arith)
      by (Some state) e =
          let rising = subst IsStrictlyIncreasing
          (sym (state_sites (setting_of graph body) states least count state e))
          (some_sites (setting_of graph body)).1.rising in
          let line = some_line state rising number count in (
            was ++ line.0,
            lines_more number states count (Some state) old was (was ++ line.0) e so_far
                (line.0, line.1, refl),
            omega (arith, length-append was line.0),
          )

  -- the lines of the first blocks go on to those of more
  more_blocks : (left count : ℕ) (was : List ℕ) → AreLinesAdded number states count old was
      → (new : List ℕ) × AreLinesAdded number states (count + left) old new
      × (length was ≤ length new)
  more_blocks zero count was so_far =
      let same : count ≡ count + 0 = omega arith in
      (was, subst (λ n. AreLinesAdded number states n old was) same so_far, omega arith)
  more_blocks (suc left) count was so_far =
      let next = one_block count was so_far in
      let rest = more_blocks left (count + 1) next.0 next.1 in
      let same : count + 1 + left ≡ count + suc left = omega arith in (
        rest.0,
        subst (λ n. AreLinesAdded number states n old rest.0) same rest.1,
        omega (arith, next.2, rest.2),
      )

  all_blocks : (count : ℕ) (was : List ℕ) → count ≤ length body.blocks
      → AreLinesAdded number states count old was
      → (new : List ℕ) × IsFunctionAdded graph number body old new × (length was ≤ length new)
  all_blocks count was few so_far =
      let rest = more_blocks (length body.blocks - count) count was so_far in
      let same : count + (length body.blocks - count) ≡ length body.blocks = omega (arith, few) in (
        rest.0,
        record {
          states = states;
          least = least;
          added = subst (λ n. AreLinesAdded number states n old rest.0) same rest.1;
        },
        rest.2,
      )

some_added : (graph : Graph) (number : ℕ) (body : Function)
    → slice_get graph.functions number ≡ Some body → (old : List ℕ)
    → (new : List ℕ) × IsFunctionAdded graph number body old new
some_added graph number body is old =
    let found = some_of_function graph number body is in
    let all = all_blocks graph number body is found.0 found.1 old 0 old (omega arith)
    (lines_start number found.0 old) in
    (all.0, all.1)

-- the lines of the first functions begin a certificate
whole_from : (graph : Graph) (left count : ℕ) (text : List ℕ)
    → length graph.functions ≤ count + left → IsMadeBelow graph count text
    → (whole : List ℕ) × IsLeastCertificate graph whole × (length text ≤ length whole)
whole_from graph zero count text past made =
    (text, made_all graph count text (omega (arith, past)) made, omega arith)
whole_from graph (suc left) count text past made = elim (cases_lt count (length graph.functions)) [
  | inr over ↦ (text, made_all graph count text over made, omega arith)
  | inl within ↦ (
      let body = element_at graph.functions count within in
      let more = some_added graph count body.0 body.1 text in
      let rest = whole_from graph left (count + 1) more.0 (omega (arith, past))
      (made_more graph count body.0 text more.0 body.1 made more.1) in (
        rest.0,
        rest.1,
        (let longer = function_longer graph count body.0 text more.0 body.1 more.1 in
            omega (arith, rest.2, longer)),
      )
      )
]

some_whole : (graph : Graph) (count : ℕ) (text : List ℕ) → IsMadeBelow graph count text
    → (whole : List ℕ) × IsLeastCertificate graph whole × (length text ≤ length whole)
some_whole graph count text made =
    whole_from graph (length graph.functions) count text (omega arith) made

-- ---- the function that is next
pub blocks_of_next : (graph : Graph) (number : ℕ) (functions : List Function) (other : Function)
    (count : ℕ) → functions ≡ graph.functions
    → count ≡ length (get_or functions number other).blocks → (body : Function)
    → slice_get graph.functions number ≡ Some body → count ≡ length body.blocks
blocks_of_next graph number functions other count same is body at =
    is ∙ ap (λ (fs : List Function). length (get_or fs number other).blocks) same
    ∙ ap (λ (b : Function). length b.blocks)
    (get_or_from_slice_get graph.functions number body other at)

pub few_blocks : (graph : Graph) (number : ℕ) (functions : List Function) (other : Function)
    (count : ℕ) (states : List (Option Regions)) → number < length graph.functions
    → functions ≡ graph.functions → count ≡ length (get_or functions number other).blocks
    → ((body : Function) → slice_get graph.functions number ≡ Some body
    → IsLeastOfFunction (setting_of graph body) states) → count ≤ MAX_POINTS
few_blocks graph number functions other count states within same is least =
    let body = element_at graph.functions number within in
    omega (
      arith,
      blocks_of_next graph number functions other count same is body.0 body.1,
      (least body.0 body.1).fits.few,
    )

-- its lines are added within the limit, or pass it
pub function_within : (graph : Graph) (number : ℕ) (body : Function)
    (states : List (Option Regions)) (blocks : ℕ) (old new : List ℕ)
    → IsLeastOfFunction (setting_of graph body) states → blocks ≡ length body.blocks
    → (within : Bool) → AreLinesWithin number states blocks old new within
    → IsFunctionWithin graph number body old new within
function_within graph number body states blocks old new least is true (added, few) = (
  record {
    states = states;
    least = least;
    added = subst (λ n. AreLinesAdded number states n old new) is added;
  },
  few,
)
function_within graph number body states blocks old new least is false
    (count, first, added, over) = (
      record {
        states = states;
        least = least;
        count = count;
        few = omega (arith, first, is);
        added = added;
      },
      over,
    )

goes_on : (graph : Graph) (number : ℕ) (body : Function) (old new : List ℕ) (within : Bool)
    → within ≡ true → IsFunctionWithin graph number body old new within
    → IsFunctionAdded graph number body old new × (length new ≤ CERTIFICATE_LIMIT)
goes_on graph number body old new true e told = told
goes_on graph number body old new false e told = absurd cc

stops : (graph : Graph) (number : ℕ) (body : Function) (old new : List ℕ) (within : Bool)
    → within ≡ false → IsFunctionWithin graph number body old new within
    → IsFunctionBegun graph number body old new × (CERTIFICATE_LIMIT < length new)
stops graph number body old new true e told = absurd cc
stops graph number body old new false e told = told

module _ (graph : Graph) (count : ℕ) (was new : List ℕ) (within : Bool)
    (next : count < length graph.functions) (made : IsMadeBelow graph count was)
    (told : (body : Function) → slice_get graph.functions count ≡ Some body
    → IsFunctionWithin graph count body was new within) where
  pub made_next : within ≡ true → count ≤ length was → IsMadeBelow graph (count + 1) new
      × (count + 1 ≤ length new) × (length new ≤ CERTIFICATE_LIMIT)
  made_next goes grown =
      let body = element_at graph.functions count next in
      let added = goes_on graph count body.0 was new within goes (told body.0 body.1) in (
        made_more graph count body.0 was new body.1 made added.0,
        (let longer = function_longer graph count body.0 was new body.1 added.0 in
            omega (arith, longer, grown)),
        added.1,
      )

  pub too_long : within ≡ false
      → (whole : List ℕ) × IsLeastCertificate graph whole × (CERTIFICATE_LIMIT < length whole)
  too_long ends =
      let body = element_at graph.functions count next in
      let first = stops graph count body.0 was new within ends (told body.0 body.1) in
      let all = all_blocks graph count body.0 body.1 first.0.states first.0.least was first.0.count
      new first.0.few first.0.added in
      let whole = some_whole graph (count + 1) all.0
      (made_more graph count body.0 was all.0 body.1 made all.1) in
      (whole.0, whole.1, omega (arith, first.1, all.2, whole.2))

pub some_certificate : (graph : Graph) → (text : List ℕ) × IsLeastCertificate graph text
some_certificate graph = let whole = some_whole graph 0 [] (made_start graph [] refl) in
    (whole.0, whole.1)
