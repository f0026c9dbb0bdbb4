-- What the flows of a graph's functions say of a certificate is what the graph says.
use Rattle.std.proofs.Common.{◌≡◌, ◌≢◌, ℕ, ◌<◌, Some, List, []}
use Rattle.std.proofs.Common.{◌∷◌, length, map, Contains, IfSome, Result, Ok, Err, refl, sym, subst, ap}
use Rattle.std.proofs.Common.{◌∙◌, IfOk, IfErr, arith}
use Rattle.std.proofs.lemmas.List.Elements.{All-from_recursion}
use Rattle.std.proofs.lemmas.List.{length-map}
use Rattle.std.proofs.lemmas.Option.{slice_get_within}
use Rattle.std.specs.List.{slice_get, AllByRecursion}
use Rattle.sw_graph.specs.declared.function.Function.{Function}
use Rattle.sw_graph.specs.declared.graph.Graph.{Graph}
use Rattle.sw_list.proofs.ListLemmas.{some_injective}
use Rattle.sw_partition.specs.Laws.{within_trans}
use Rattle.sw_partition.specs.Regions.{Regions, size_of, IsWithin}
use Rattle.sw_region_flow.proofs.Places.{element_at}
use Rattle.sw_region_flow.specs.Certified.{IsCertified}
use Rattle.sw_region_ops.specs.Entry.{IsEntry, IsEntryOf}
use Rattle.sw_region_ops.specs.Setting.{setting_of}
use Rattle.sw_region_ops.specs.Sites.{AreSites}
use Rattle.sw_solve.proofs.Spreading.{below_down}
use Rattle.sw_solve.specs.Annotation.{value_at}
use Rattle.sw_cert.proofs.Alike.{one_extents}
use Rattle.sw_cert.proofs.EntriesDecided.{one_entry_within}
use Rattle.sw_cert.proofs.Forming.{size_parts, extent_is}
use Rattle.sw_cert.specs.Certificate.{AreLinesFrom, IsCertificate, behind}
use Rattle.sw_cert.specs.Flows.{AreFlows, AreSized, extent_for}
use Rattle.sw_cert.specs.Form.{AreFit}
use Rattle.sw_cert.specs.ReadLines.{text_of}
use Rattle.sw_cert.specs.Reading.{AreExtentsOf, IsExtentOf, IsReading, AreStated, states_of}
use Rattle.sw_cert.specs.Tables.{IsLineIn, AreTabled}
use Rattle.sw_cert.specs.Tests.{EntersBy, IsFirstBelow, HoldsBy, IsFirstFault}
use Rattle.sw_cert.specs.Tests.{IsLineOn, IfNotRead}
use Rattle.sw_cert.specs.Verified.{Annotations, EntersAt, PassesAt, IsFirstLine}
use Rattle.sw_cert.specs.Verified.{HasFitExtents}
use Rattle.sw_cert.specs.Verified.{ClosedAt, LinePasses, LineIsClosed, Holds, Verified}
use Rattle.sw_cert.specs.Verified.{accepted, bad_form, entry, fails, open_at}
use Rattle.sw_cert.specs.declared.flows.FunctionFlow.{FunctionFlow}
use Rattle.sw_cert.specs.declared.line.Extent.{Extent}
use Rattle.sw_cert.specs.declared.line.Line.{Line}
use Rattle.sw_cert.specs.declared.line.Spot.{Spot}
use Rattle.sw_cert.specs.declared.verdict.CertFault.{CertFault}
use Rattle.sw_cert.specs.declared.verdict.CertFault.TheVariants as faults

-- ---- the lines of a certificate
-- each is one of a function with one of the extents
pub lines_from_in : (extents : List Extent) (spot : Spot) (lines : List Line)
    → AreLinesFrom extents spot lines → AllByRecursion (IsLineIn extents) lines
lines_from_in extents spot [] are = tt
lines_from_in extents spot (line ∷ lines) (is, are) = (
  record { extent = is.extent; is_extent = is.is_extent; fits = is.fits },
  lines_from_in extents (behind line) lines are,
)

pub lines_in : (flows : List FunctionFlow) (extents : List Extent) (bytes : List ℕ)
    (lines : List Line) → extents ≡ map extent_for flows → IsCertificate extents bytes lines
    → AllByRecursion (IsLineIn (map extent_for flows)) lines
lines_in flows extents bytes lines value is =
    subst (λ es. AllByRecursion (IsLineIn es) lines) value
    (lines_from_in extents _ lines is.are_lines)

pub line_on : (flows : List FunctionFlow) (line : Line) → IsLineIn (map extent_for flows) line
    → IsLineOn flows line
line_on flows line is =
    let h = extent_is flows line.function is.extent is.is_extent in
    record {
      flow = h.0;
      is_flow = h.1;
      block = subst (λ e. line.block < e.blocks) (sym h.2) is.fits.block;
    }

pub lines_on : (flows : List FunctionFlow) (lines : List Line)
    → AllByRecursion (IsLineIn (map extent_for flows)) lines → AllByRecursion (IsLineOn flows) lines
lines_on flows [] are = tt
lines_on flows (line ∷ lines) (is, are) = (line_on flows line is, lines_on flows lines are)

-- what holds of all holds of a member
pub of_member : {X : Type 0} (P : X → Type 0) (xs : List X) (x : X) → AllByRecursion P xs
    → Contains xs x → P x
of_member P xs x all (k, within, e) = subst P e (All-from_recursion P xs all k x within)

-- ---- the flows are those of a graph
module _ (graph : Graph) (flows : List FunctionFlow) (are : AreFlows graph flows)
    (sized : AreSized flows) where
  -- the flow of a function, and the function of a flow
  flow_at : (n : ℕ) (body : Function) → slice_get graph.functions n ≡ Some body
      → (flow : FunctionFlow) × (slice_get flows n ≡ Some flow)
  flow_at n body is = element_at flows n
      (let h = slice_get_within graph.functions n body is in omega (arith, h, are.count_is))

  body_at : (n : ℕ) (flow : FunctionFlow) → slice_get flows n ≡ Some flow
      → (body : Function) × (slice_get graph.functions n ≡ Some body)
  body_at n flow is = element_at graph.functions n
      (let h = slice_get_within flows n flow is in omega (arith, h, are.count_is))

  sites_at : (n : ℕ) (flow : FunctionFlow) → slice_get flows n ≡ Some flow
      → AreSites flow.blocks.setting flow.entry.sites
  sites_at n flow is =
      let h = sized n flow is in
      subst (AreSites flow.blocks.setting) (sym (size_parts flow h).1) h.fits.sites

  extent_fits : (n : ℕ) (body : Function) (extent : Extent)
      → slice_get graph.functions n ≡ Some body
      → slice_get (map extent_for flows) n ≡ Some extent
      → IsExtentOf (setting_of graph body) extent
  extent_fits n body extent is is_extent =
      let h = extent_is flows n extent is_extent in
      let e = (are.each n body h.0 is h.1).setting in
      subst (IsExtentOf (setting_of graph body)) h.2
      (subst (λ s. IsExtentOf s (extent_for h.0)) e (record {
        blocks = refl;
        elements = (size_parts h.0 (sized n h.0 h.1)).0;
        sites = sites_at n h.0 h.1;
      }))

  pub extents_fit : AreExtentsOf graph (map extent_for flows)
  extents_fit = record {
    count = length-map flows extent_for ∙ are.count_is;
    each = λ n body extent is is_extent. extent_fits n body extent is is_extent;
  }

  -- an entry state of the function, and that of its flow
  entry_at : (n : ℕ) (body : Function) (flow : FunctionFlow)
      → slice_get graph.functions n ≡ Some body → slice_get flows n ≡ Some flow
      → IsEntryOf graph body flow.entry
  entry_at n body flow is is_flow =
      let h = are.each n body flow is is_flow in
      let parts = size_parts flow (sized n flow is_flow) in
      record {
        sites = subst (λ s. AreSites s flow.entry.sites) h.setting (sites_at n flow is_flow);
        entry = subst (λ s. IsEntry s flow.entry.sites flow.entry) h.setting
            (subst (λ sites. IsEntry flow.blocks.setting sites flow.entry) (sym parts.1)
            h.is_entry);
      }

  enters_at : (tables : Annotations) (n : ℕ) → EntersBy flows tables n → EntersAt graph tables n
  enters_at tables n by body is =
      let h = flow_at n body is in
      record {
        entry = h.0.entry;
        is_entry = entry_at n body h.0 is h.1;
        within = by h.0 h.1;
      }

  enters_by : (tables : Annotations) (n : ℕ) → EntersAt graph tables n → EntersBy flows tables n
  enters_by tables n at flow is_flow =
      let h = body_at n flow is_flow in
      let e = at h.0 h.1 in
      below_down IsWithin within_trans flow.entry e.entry (value_at (states_of tables n) 0)
      (one_entry_within graph h.0 flow.entry e.entry (entry_at n h.0 flow h.1 is_flow) e.is_entry)
      e.within

  -- a line
  setting_at : (n : ℕ) (body : Function) (flow : FunctionFlow)
      → slice_get graph.functions n ≡ Some body → slice_get flows n ≡ Some flow
      → flow.blocks.setting ≡ setting_of graph body
  setting_at n body flow is is_flow = (are.each n body flow is is_flow).setting

  line_passes : (tables : Annotations) (line : Line) (flow : FunctionFlow)
      → slice_get flows line.function ≡ Some flow
      → PassesAt flow.blocks.setting (states_of tables line.function) line.block
      → LinePasses graph tables line
  line_passes tables line flow is_flow passes body is =
      subst (λ s. PassesAt s (states_of tables line.function) line.block)
      (setting_at line.function body flow is is_flow) passes

  line_closed : (tables : Annotations) (line : Line) (flow : FunctionFlow)
      → slice_get flows line.function ≡ Some flow
      → ClosedAt flow.blocks.setting (states_of tables line.function) line.block
      → LineIsClosed graph tables line
  line_closed tables line flow is_flow closed body is =
      subst (λ s. ClosedAt s (states_of tables line.function) line.block)
      (setting_at line.function body flow is is_flow) closed

  passes_by : (tables : Annotations) (line : Line) (flow : FunctionFlow)
      → slice_get flows line.function ≡ Some flow → LinePasses graph tables line
      → PassesAt flow.blocks.setting (states_of tables line.function) line.block
  passes_by tables line flow is_flow passes =
      let h = body_at line.function flow is_flow in
      subst (λ s. PassesAt s (states_of tables line.function) line.block)
      (sym (setting_at line.function h.0 flow h.1 is_flow)) (passes h.0 h.1)

  closed_by : (tables : Annotations) (line : Line) (flow : FunctionFlow)
      → slice_get flows line.function ≡ Some flow → LineIsClosed graph tables line
      → ClosedAt flow.blocks.setting (states_of tables line.function) line.block
  closed_by tables line flow is_flow closed =
      let h = body_at line.function flow is_flow in
      subst (λ s. ClosedAt s (states_of tables line.function) line.block)
      (sym (setting_at line.function h.0 flow h.1 is_flow)) (closed h.0 h.1)

  all_hold : (tables : Annotations) (lines : List Line)
      → AllByRecursion (HoldsBy flows tables) lines → AllByRecursion (Holds graph tables) lines
  all_hold tables [] are = tt
  all_hold tables (line ∷ lines) (hold, holds) = (
    (
      λ body is. let h = flow_at line.function body is in
          line_passes tables line h.0 h.1 (hold h.0 h.1).0 body is,
      λ body is. let h = flow_at line.function body is in
          line_closed tables line h.0 h.1 (hold h.0 h.1).1 body is,
    ),
    all_hold tables lines holds,
  )

  -- ---- the lines fill tables
  module _ (bytes : List ℕ) (lines : List Line) (tables : Annotations)
      (certificate : IsCertificate (map extent_for flows) bytes lines)
      (tabled : AreTabled flows lines tables) where
    reading : IsReading graph bytes lines tables
    reading = record {
      extents = map extent_for flows;
      are_extents = extents_fit;
      is_certificate = certificate;
      are_stated = λ n extent is.
          let h = extent_is flows n extent is in
          subst (λ e. AreStated e lines n (states_of tables n)) h.2 (tabled.stated n h.0 h.1);
    }

    pub entry_answer : (function : ℕ) → IsFirstBelow flows tables (Some function)
        → Verified graph bytes (Err (faults.Entry function))
    entry_answer function (within, not, before) = entry lines tables function reading (record {
      not_entered = λ at. not (enters_by tables function at);
      least = λ other below. enters_at tables other (before other below);
    })

    module _ (enters : (function : ℕ) → EntersBy flows tables function) where
      first_line : (fault : CertFault) (at : ℕ) (first : IsFirstFault flows tables lines fault)
          → at ≡ length (text_of first.before) → IsFirstLine graph bytes tables first.line at
      first_line fault at first e = record {
        before = first.before;
        behind = first.behind;
        is_reading = subst (λ ls. IsReading graph bytes ls tables) first.splits reading;
        entered = λ function. enters_at tables function (enters function);
        hold = all_hold tables first.before first.hold;
        at_is = e;
      }

      pub fault_answer : (fault : CertFault) → IsFirstFault flows tables lines fault
          → fault ≢ faults.Memory → Verified graph bytes (Err fault)
      fault_answer (faults.Fails at) first not = fails tables first.line at
          (first_line (faults.Fails at) at first first.is_fault.0)
          (λ passes. first.is_fault.1
          (passes_by tables first.line first.flow first.is_flow passes))
      fault_answer (faults.Open at) first not = open_at tables first.line at
          (first_line (faults.Open at) at first first.is_fault.0)
          (line_passes tables first.line first.flow first.is_flow first.is_fault.1)
          (λ closed. first.is_fault.2
          (closed_by tables first.line first.flow first.is_flow closed))
      fault_answer (faults.BadForm at) first not = absurd first.is_fault
      fault_answer (faults.Entry function) first not = absurd first.is_fault
      fault_answer faults.Memory first not = absurd (not refl)

      -- a line of a state
      holds_at : AllByRecursion (HoldsBy flows tables) lines → (n : ℕ) (flow : FunctionFlow)
          → slice_get flows n ≡ Some flow → (block : ℕ) (state : Regions)
          → value_at (states_of tables n) block ≡ Some state
          → PassesAt flow.blocks.setting (states_of tables n) block
          × ClosedAt flow.blocks.setting (states_of tables n) block
          × (block < length flow.blocks.setting.body.blocks)
      holds_at hold n flow is block state at =
          let by = (tabled.stated n flow is).stated block state at in
          let on = of_member (IsLineOn flows) lines by.line
          (lines_on flows lines
          (lines_in flows (map extent_for flows) bytes lines refl certificate)) by.is_line in
          let h = of_member (HoldsBy flows tables) lines by.line hold by.is_line flow
          (ap (slice_get flows) by.function_is ∙ is) in
          let same : on.flow ≡ flow = some_injective (sym on.is_flow
          ∙ ap (slice_get flows) by.function_is ∙ is) in
          let there = subst (λ m. PassesAt flow.blocks.setting (states_of tables m) by.line.block
          × ClosedAt flow.blocks.setting (states_of tables m) by.line.block) by.function_is h in
          let moved = subst (λ b. PassesAt flow.blocks.setting (states_of tables n) b
          × ClosedAt flow.blocks.setting (states_of tables n) b) by.block_is there in (
            moved.0,
            moved.1,
            subst (λ b. b < length flow.blocks.setting.body.blocks) by.block_is
                (subst (λ f. by.line.block < length f.blocks.setting.body.blocks) same on.block),
          )

      certified_at : AllByRecursion (HoldsBy flows tables) lines → (n : ℕ) (flow : FunctionFlow)
          → slice_get flows n ≡ Some flow
          → IsEntry flow.blocks.setting flow.blocks.sites flow.entry
          → IsCertified flow.blocks.setting (states_of tables n)
      certified_at hold n flow is is_entry = record {
        sites = flow.blocks.sites;
        are_sites = (sized n flow is).fits.sites;
        closed = record {
          sized = λ block. subst (λ size. IfSome (value_at (states_of tables n) block)
              (λ state. size_of state ≡ size)) (sized n flow is).size
              (tabled.sized n flow is block);
          entry = flow.entry;
          enters_by = is_entry;
          entered = enters n flow is;
          stepped = λ block state at.
              let h = holds_at hold n flow is block state at in
              let on = h.1 state at in
              record {
                made = on.made;
                leads_to = (h.2, on.leads_to);
                below = on.below;
              };
        };
        passes = λ block state copied at copy.
            (holds_at hold n flow is block state at).0 state copied at copy;
      }

      pub accepted_answer : AllByRecursion (HoldsBy flows tables) lines
          → Verified graph bytes (Ok tt)
      accepted_answer hold = accepted (record {
        lines = lines;
        annotations = tables;
        is_reading = reading;
        certified = λ function body is.
            let h = flow_at function body is in
            let f = are.each function body h.0 is h.1 in
            subst (λ s. IsCertified s (states_of tables function)) f.setting
            (certified_at hold function h.0 h.1 f.is_entry);
      })

      pub last_answer : (r : Result (Unit {0}) CertFault)
          → IfOk r (λ _. AllByRecursion (HoldsBy flows tables) lines)
          → IfErr r (IsFirstFault flows tables lines) → r ≢ Err faults.Memory
          → Verified graph bytes r
      last_answer (Ok x) hold fault not = accepted_answer hold
      last_answer (Err f) hold fault not = fault_answer f fault (λ e. not (ap (λ g. Err g) e))

-- ---- what isn't read, and the numbers of the graph
module _ (graph : Graph) (flows : List FunctionFlow) (are : AreFlows graph flows)
    (sized : AreSized flows) (extents : List Extent) (value : extents ≡ map extent_for flows) where
  these : AreExtentsOf graph extents
  these = subst (AreExtentsOf graph) (sym value) (extents_fit graph flows are sized)

  pub read_answer : (bytes : List ℕ) (fault : CertFault) → IfNotRead extents bytes fault
      → fault ≢ faults.Memory → Verified graph bytes (Err fault)
  read_answer bytes (faults.BadForm at) bad not = bad_form at
      (record { extents = extents; are_extents = these; is_bad = bad })
  read_answer bytes (faults.Entry n) bad not = absurd bad
  read_answer bytes (faults.Fails n) bad not = absurd bad
  read_answer bytes (faults.Open n) bad not = absurd bad
  read_answer bytes faults.Memory bad not = absurd (not refl)

  pub read_result : (bytes : List ℕ) (r : Result (Unit {0}) CertFault) (fault : CertFault)
      → r ≡ Err fault → IfNotRead extents bytes fault → r ≢ Err faults.Memory
      → Verified graph bytes r
  read_result bytes r fault e bad not = subst (Verified graph bytes) (sym e)
      (read_answer bytes fault bad (λ m. not (e ∙ ap (λ f. Err f) m)))

  pub fit_extents : AreFit extents → HasFitExtents graph
  fit_extents fit others are_others =
      subst AreFit (one_extents graph extents others these are_others) fit
