-- Bytes are verified in one way, and are accepted exactly if the answer is so.
use Rattle.std.proofs.Common.{◌≡◌, ℕ, zero, suc, ◌<◌, ◌≤◌, ◌⊎◌, inl, inr, Some, List, []}
use Rattle.std.proofs.Common.{◌∷◌, ◌++◌, take, drop, Result, Ok, Err, IfOk, refl, sym, subst}
use Rattle.std.proofs.Common.{ap, ◌∙◌, arith}
use Rattle.std.proofs.lemmas.Bool.{cases_order}
use Rattle.std.proofs.lemmas.List.{append_assoc, take-append-drop}
use Rattle.std.proofs.lemmas.Option.{slice_get_within}
use Rattle.std.specs.List.{slice_get, AllByRecursion}
use Rattle.sw_dictation.specs.Lines.{LineForm, IsText, Begins, IsBadPlace}
use Rattle.sw_graph.specs.declared.function.Function.{Function}
use Rattle.sw_graph.specs.declared.graph.Graph.{Graph}
use Rattle.sw_region_flow.proofs.Places.{element_at}
use Rattle.sw_region_flow.specs.Certified.{IsCertified}
use Rattle.sw_region_ops.specs.Entry.{IsEntry}
use Rattle.sw_region_ops.specs.Setting.{setting_of}
use Rattle.sw_region_ops.specs.Sites.{AreSites}
use Rattle.sw_cert.proofs.Alike.{one_extents, one_lines, states_copied}
use Rattle.sw_cert.proofs.Deciding.{AreCopied, Outcome, all, enters_not, stops, one_outcome}
use Rattle.sw_cert.proofs.Deciding.{outcome_copied}
use Rattle.sw_cert.proofs.Texts.{text_of_certificate}
use Rattle.sw_cert.specs.Certificate.{start, AreLinesFrom}
use Rattle.sw_cert.specs.Form.{certificate_form}
use Rattle.sw_cert.specs.Reading.{states_of, IsReading}
use Rattle.sw_cert.specs.Verified.{Annotations, IsNotInForm, EntersAt, Holds}
use Rattle.sw_cert.specs.Verified.{IsAccepted, Verified, accepted, bad_form, entry, fails}
use Rattle.sw_cert.specs.Verified.{open_at}
use Rattle.sw_cert.specs.declared.line.Line.{Line}
use Rattle.sw_cert.specs.declared.verdict.CertFault.{CertFault}
use Rattle.sw_cert.specs.declared.verdict.CertFault.TheVariants as faults

-- ---- one bad place
begins_shorter : {A : Type 0} (form : LineForm A) (before : A) (bytes : List ℕ) (k n : ℕ) → k ≤ n
    → Begins form before (take n bytes) → Begins form before (take k bytes)
begins_shorter form before bytes k n le (more, text) =
    let split = sym (take-append-drop k (take n bytes)) in
    let first : take k (take n bytes) ≡ take k bytes = shorter bytes k n le in
    let whole = ap (λ xs. xs ++ more) (split ∙ ap (λ xs. xs ++ drop k (take n bytes)) first)
    ∙ append_assoc (take k bytes) (drop k (take n bytes)) more in
    (drop k (take n bytes) ++ more, subst (IsText form before) whole text)
  where
    shorter : (xs : List ℕ) (k n : ℕ) → k ≤ n → take k (take n xs) ≡ take k xs
    shorter xs zero n le = refl
    shorter [] (suc k) n le = none n
      where
        none : (n : ℕ) → take {A = ℕ} (suc k) (take n []) ≡ take (suc k) []
        none zero = refl
        none (suc n) = refl
    shorter (x ∷ xs) (suc k) zero le = absurd (omega (arith, le))
    shorter (x ∷ xs) (suc k) (suc n) le = ap (λ ys. x ∷ ys) (shorter xs k n (omega (arith, le)))

not_before : {A : Type 0} (form : LineForm A) (before : A) (bytes : List ℕ) (m n : ℕ)
    → IsBadPlace form before bytes m → IsBadPlace form before bytes n → m < n → ⊥
not_before form before bytes m n first second below =
    first.stops (omega (arith, below, second.within))
    (begins_shorter form before bytes (suc m) n (omega (arith, below)) second.begins)

pub one_place : {A : Type 0} (form : LineForm A) (before : A) (bytes : List ℕ) (m n : ℕ)
    → IsBadPlace form before bytes m → IsBadPlace form before bytes n → m ≡ n
one_place form before bytes m n first second = elim (cases_order m n) [
  | inl e ↦ e
  | inr (inl below) ↦ absurd (not_before form before bytes m n first second below)
  | inr (inr above) ↦ absurd (not_before form before bytes n m second first above)
]

-- ---- one reading
-- what is said of a reading of the bytes
record IsJudged (graph : Graph) (bytes : List ℕ) (r : Result (Unit {0}) CertFault) : Type 0 where
  lines : List Line
  states : Annotations
  is_reading : IsReading graph bytes lines states
  outcome : Outcome graph lines states r

module _ (graph : Graph) (bytes : List ℕ) where
  lines_same : (a b : List Line) (first second : Annotations) → IsReading graph bytes a first
      → IsReading graph bytes b second → a ≡ b
  lines_same a b first second one other =
      let same = one_extents graph other.extents one.extents other.are_extents one.are_extents in
      one_lines one.extents start a b one.is_certificate.are_lines
      (subst (λ es. AreLinesFrom es start b) same other.is_certificate.are_lines)
      (sym one.is_certificate.spelled ∙ other.is_certificate.spelled)

  copied : (lines : List Line) (first second : Annotations) → IsReading graph bytes lines first
      → IsReading graph bytes lines second → AreCopied graph first second
  copied lines first second one other n body is =
      let extent = element_at one.extents n
      (let h = slice_get_within graph.functions n body is in
      omega (arith, h, one.are_extents.count)) in
      let same = one_extents graph other.extents one.extents other.are_extents one.are_extents in
      states_copied one.extents start lines extent.0 n (states_of first n) (states_of second n)
      one.is_certificate.are_lines (one.are_stated n extent.0 extent.1)
      (other.are_stated n extent.0 (ap (λ es. slice_get es n) same ∙ extent.1))

  outcome_moved : (a b : List Line) (first second : Annotations) → IsReading graph bytes a first
      → IsReading graph bytes b second → (r : Result (Unit {0}) CertFault)
      → Outcome graph a first r → Outcome graph b second r
  outcome_moved a b first second one other r outcome =
      let same = lines_same a b first second one other in
      let here = subst (λ ls. IsReading graph bytes ls first) same one in
      outcome_copied graph b first second (copied b first second here other)
      (copied b second first other here) r (subst (λ ls. Outcome graph ls first r) same outcome)

  not_read : (lines : List Line) (states : Annotations) (at : ℕ)
      → IsReading graph bytes lines states → IsNotInForm graph bytes at → ⊥
  not_read lines states at reading not =
      let same = one_extents graph reading.extents not.extents reading.are_extents not.are_extents
      in
      not.is_bad.no_text (subst (λ es. IsText (certificate_form es) start bytes) same
      (text_of_certificate reading.extents bytes lines reading.is_certificate))

  one_bad : (m n : ℕ) → IsNotInForm graph bytes m → IsNotInForm graph bytes n → m ≡ n
  one_bad m n first second =
      let same = one_extents graph second.extents first.extents second.are_extents first.are_extents
      in
      one_place (certificate_form first.extents) start bytes m n first.is_bad
      (subst (λ es. IsBadPlace (certificate_form es) start bytes n) same second.is_bad)

  -- ---- what is accepted
  certified_enters : (states : Annotations) (n : ℕ)
      → ((function : ℕ) (body : Function) → slice_get graph.functions function ≡ Some body
      → IsCertified (setting_of graph body) (states_of states function))
      → EntersAt graph states n
  certified_enters states n certified body is =
      let c = certified n body is in
      let first = c.closed.entry in
      let sites = sym c.closed.enters_by.sites_are in
      record {
        entry = first;
        is_entry = record {
          sites = subst (AreSites (setting_of graph body)) sites c.are_sites;
          entry = subst (λ ss. IsEntry (setting_of graph body) ss first) sites c.closed.enters_by;
        };
        within = c.closed.entered;
      }

  certified_holds : (states : Annotations) (lines : List Line)
      → ((function : ℕ) (body : Function) → slice_get graph.functions function ≡ Some body
      → IsCertified (setting_of graph body) (states_of states function))
      → AllByRecursion (Holds graph states) lines
  certified_holds states [] certified = tt
  certified_holds states (line ∷ lines) certified = (
    (
      λ body is state copied at copy.
          (certified line.function body is).passes line.block state copied at copy,
      λ body is state at.
          let on = (certified line.function body is).closed.stepped line.block state at in
          record { made = on.made; leads_to = on.leads_to.1; below = on.below },
    ),
    certified_holds states lines certified,
  )

  -- ---- what is answered
  -- a text that is answered is read, or isn't in form
  read_or_not : (r : Result (Unit {0}) CertFault) → Verified graph bytes r
      → IsJudged graph bytes r
      ⊎ ((at : ℕ) × (r ≡ Err (faults.BadForm at)) × IsNotInForm graph bytes at)
  read_or_not _ (accepted is) = inl (
      record {
        lines = is.lines;
        states = is.annotations;
        is_reading = is.is_reading;
        outcome = all (λ n. certified_enters is.annotations n is.certified)
            (certified_holds is.annotations is.lines is.certified);
      }
      )
  read_or_not _ (bad_form at not) = inr (at, refl, not)
  read_or_not _ (entry lines states n reading first) =
      inl (record {
        lines = lines;
        states = states;
        is_reading = reading;
        outcome = enters_not n first;
      })
  read_or_not _ (fails states line at first not) = inl (
      record {
        lines = first.before ++ line ∷ first.behind;
        states = states;
        is_reading = first.is_reading;
        outcome = stops first.before line first.behind (faults.Fails at) refl first.entered first.hold
            (first.at_is, not);
      }
      )
  read_or_not _ (open_at states line at first passes not) = inl (
      record {
        lines = first.before ++ line ∷ first.behind;
        states = states;
        is_reading = first.is_reading;
        outcome = stops first.before line first.behind (faults.Open at) refl first.entered first.hold
            (first.at_is, passes, not);
      }
      )

  pub one_verified : (a b : Result (Unit {0}) CertFault) → Verified graph bytes a
      → Verified graph bytes b → a ≡ b
  one_verified a b first second = elim (read_or_not a first) [
    | inl one ↦ elim (read_or_not b second) [
      | inl other ↦ one_outcome graph one.lines one.states a b one.outcome
          (outcome_moved other.lines one.lines other.states one.states other.is_reading
          one.is_reading b other.outcome)
      | inr (at, e, not) ↦ absurd (not_read one.lines one.states at one.is_reading not)
    ]
    | inr (at, e, not) ↦ elim (read_or_not b second) [
      | inl other ↦ absurd (not_read other.lines other.states at other.is_reading not)
      | inr (n, e_too, not_too) ↦ e ∙ ap (λ k. Err (faults.BadForm k)) (one_bad at n not not_too)
          ∙ sym e_too
    ]
  ]

-- accepted exactly if the bytes are a certificate of the graph that shows each test to pass
pub ok_exactly : (graph : Graph) (bytes : List ℕ)
    → (Verified graph bytes (Ok tt) → IsAccepted graph bytes)
    × (IsAccepted graph bytes → Verified graph bytes (Ok tt))
ok_exactly graph bytes = (λ is. of_ok (Ok tt) is, λ is. accepted is)
  where
    of_ok : (r : Result (Unit {0}) CertFault) → Verified graph bytes r
        → IfOk r (λ _. IsAccepted graph bytes)
    of_ok _ (accepted is) = is
    of_ok _ (bad_form at not) = tt
    of_ok _ (entry lines states n reading first) = tt
    of_ok _ (fails states line at first not) = tt
    of_ok _ (open_at states line at first passes not) = tt
