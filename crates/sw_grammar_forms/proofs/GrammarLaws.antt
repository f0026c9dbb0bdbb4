-- The laws of a form of a grammar, of any depth: a list of tokens spells one value or has one
-- unexpected token.
use Rattle.std.proofs.Common.{◌≡◌, ℕ, ◌-◌, ◌≤◌, max, true, ◌⊎◌}
use Rattle.std.proofs.Common.{arith, inl, inr, List, [], ◌++◌, length, refl, sym, ◌∙◌, ap, subst}
use Rattle.std.specs.Prelude.{Ok, Err}
use Rattle.std.proofs.Math.Nat.{le-max_left, le-max_right}
use Rattle.sw_token.specs.Spelling.{Spelled, IsSpelling}
use Rattle.sw_grammar_forms.specs.Form.{Shape, Form}
use Rattle.sw_grammar_forms.specs.Relations.{Relation, head}
use Rattle.sw_grammar_forms.specs.Reader.{Answer, Reader, pure, then_read, finish, whole}
use Rattle.sw_grammar_forms.specs.Reader.Fault.{unexpected, too_deep}
use Rattle.sw_grammar_forms.specs.Spells.{spells, Wide, reads}
use Rattle.sw_grammar_forms.specs.Whole.{IsSpelled, IsUnexpectedIn, IsTooDeepIn, IsShallow}
use Rattle.sw_grammar_forms.specs.Opens.{opens}
use Rattle.sw_grammar_forms.proofs.ReaderLaws.{Without, Failed, Reads, ok_parts}
use Rattle.sw_grammar_forms.proofs.LoopLaws.{same_ends}
use Rattle.sw_grammar_forms.proofs.FormLaws.{deeper, law}
use Rattle.sw_grammar_forms.proofs.DepthLaws.{NotDeep, Agrees, then_agrees, reads_deeper}
use Rattle.sw_grammar_forms.proofs.DepthEnough.{deep_enough}
use Rattle.sw_grammar_forms.proofs.WholeLaws.{IsEnd, whole_reads, whole_spells, whole_fails}
use Rattle.sw_grammar_forms.proofs.WholeLaws.{unexpected_token, opened_begins, opened_token}
use Rattle.sw_grammar_forms.proofs.WholeLaws.{first_opened, none_opened}
use Rattle.sw_grammar_forms.proofs.Opening.{Opening}
use Rattle.sw_grammar_forms.proofs.OpensLaws.{opens_law}

module _ {N : Type 0} (El : N → Type 0) (shape_of : N → Shape)
    (body : (n : N) → Form El shape_of (shape_of n) (El n))
    (good : (n : N) → (shape_of n).ok ≡ true) {s : Shape} {A : Type 0} (form : Form El shape_of s A)
    (ok : s.ok ≡ true) where
  abbrev R : ℕ → Relation A
  R depth = spells El shape_of body depth form

  abbrev W : Relation A
  W = Wide El shape_of body form

  abbrev reader : ℕ → Reader A
  reader depth = reads El shape_of body depth form

  law_of : (depth : ℕ) → Reads (R depth) W (Without s.ext) (reader depth)
  law_of depth = law El shape_of body good depth form ok

  -- What is spelled within a depth is read, and what is read is spelled.
  pub spelled_is_read : (depth : ℕ) (a : A) (ts : List Spelled) → R depth a ts
      → whole (reader depth) ts ≡ Ok (a, [])
  spelled_is_read depth a ts h = whole_reads (R depth) W s.ext (reader depth) (law_of depth) a ts h

  pub read_is_spelled : (depth : ℕ) (ts : List Spelled) (a : A) (rest : List Spelled)
      → whole (reader depth) ts ≡ Ok (a, rest) → R depth a ts
  read_is_spelled depth ts a rest e =
      whole_spells (R depth) W s.ext (reader depth) (law_of depth) ts a rest e

  -- One list of tokens spells one value.
  pub one_value : (a b : A) (ts : List Spelled) → W a ts → W b ts → a ≡ b
  one_value a b ts h k =
      let most : ℕ = max h.0 k.0 in
      (ok_parts (sym (spelled_is_read most a ts
      (deeper El shape_of body good h.0 most (le-max_left h.0 k.0) form a ts h.1))
      ∙ spelled_is_read most b ts
      (deeper El shape_of body good k.0 most (le-max_right h.0 k.0) form b ts k.1))).0

  whole_deeper : (d e : ℕ) → d ≤ e → Agrees (whole (reader d)) (whole (reader e))
  whole_deeper d e less =
      then_agrees (reader d) (reader e) (λ a. then_read finish (λ _. pure a))
      (λ a. then_read finish (λ _. pure a)) (reads_deeper El shape_of body d e less form)
      (λ a ts _. refl)

  -- A token that can't be taken begins no spelling of any depth.
  failed_at_any_depth : (depth : ℕ) (ts : List Spelled) (left : ℕ)
      → whole (reader depth) ts ≡ Err (unexpected left) → Failed W W IsEnd ts (unexpected left)
  failed_at_any_depth depth ts left e =
      let bad = whole_fails (R depth) W s.ext (reader depth) (law_of depth) ts
      (unexpected left) e in
      record {
        before = bad.before;
        bad = bad.bad;
        split = bad.split;
        count = bad.count;
        opens = bad.opens;
        none = λ a prefix rest more h g same heads.
            let most : ℕ = max depth h.0 in
            let again : whole (reader most) ts ≡ Err (unexpected left)
            = whole_deeper depth most (le-max_left depth h.0) ts (subst NotDeep (sym e) tt) ∙ e in
            let worse = whole_fails (R most) W s.ext (reader most) (law_of most) ts
            (unexpected left) again in
            let ends = same_ends bad.before bad.bad worse.before worse.bad
            (sym bad.split ∙ worse.split) (bad.count ∙ sym worse.count) in
            worse.none a prefix rest more
            (deeper El shape_of body good h.0 most (le-max_right depth h.0) form a prefix h.1) g
            (same ∙ ap (λ us. us ++ more) ends.0) (heads ∙ ap head ends.1);
        begun = bad.begun;
      }

  -- A fault names the unexpected token, whatever the depth.
  pub fault_is_unexpected : (depth : ℕ) (ts : List Spelled) → IsSpelling ts → (left : ℕ)
      → whole (reader depth) ts ≡ Err (unexpected left) → IsUnexpectedIn W ts (length ts - left)
  fault_is_unexpected depth ts is left e =
      unexpected_token W ts is left (failed_at_any_depth depth ts left e)

  -- There is a value or an unexpected token.
  pub value_or_unexpected : (ts : List Spelled) → IsSpelling ts
      → IsSpelled W ts ⊎ ((n : ℕ) × IsUnexpectedIn W ts n)
  value_or_unexpected ts is = by_answer (whole (reader (length ts)) ts) refl
    where
      by_answer : (r : Answer A) → whole (reader (length ts)) ts ≡ r
          → IsSpelled W ts ⊎ ((n : ℕ) × IsUnexpectedIn W ts n)
      by_answer (Ok x) e = inl (
        x.0,
        record { spelling = is; form = (length ts, read_is_spelled (length ts) ts x.0 x.1 e) },
      )
      by_answer (Err (unexpected left)) e =
          inr (length ts - left, fault_is_unexpected (length ts) ts is left e)
      by_answer (Err (too_deep left)) e = absurd (deep_enough El shape_of body form ts left e)

  abbrev O : ℕ → List Spelled → Type 0
  O depth = opens El shape_of body depth form

  pub opening_of : (depth : ℕ) → Opening (O depth) (reader depth)
  opening_of depth = opens_law El shape_of body good depth form ok

  -- Where the fault is at a token that can't be taken, none before it opens a nest too many; nor
  -- does any token of what is read.
  pub read_is_shallow : (depth : ℕ) (ts : List Spelled) (n : ℕ) → n ≤ length ts
      → NotDeep (whole (reader depth) ts) → IsShallow (O depth) ts n
  read_is_shallow depth ts n within calm =
      none_opened (O depth) (reader depth) (opening_of depth) ts n within calm

  -- A fault names the first token that opens a nest too many.
  pub fault_is_too_deep : (depth : ℕ) (ts : List Spelled) → IsSpelling ts → (left : ℕ)
      → whole (reader depth) ts ≡ Err (too_deep left)
      → IsTooDeepIn (O depth) W ts (length ts - left)
  fault_is_too_deep depth ts is left e =
      let one = opened_begins (R depth) W ts is left
      (whole_fails (R depth) W s.ext (reader depth) (law_of depth) ts (too_deep left) e) in
      record {
        within = one.0;
        begun = one.1;
        opens = opened_token (O depth) (reader depth) (opening_of depth) ts left e;
        first = first_opened (O depth) (reader depth) (opening_of depth) ts left e;
      }

  -- What is spelled within a depth has no token that opens a nest too many.
  pub spelled_is_shallow : (depth : ℕ) (ts : List Spelled) → IsSpelled (R depth) ts
      → IsShallow (O depth) ts (length ts)
  spelled_is_shallow depth ts h =
      read_is_shallow depth ts (length ts) (omega arith)
      (subst NotDeep (sym (spelled_is_read depth h.0 ts h.1.form)) tt)

  -- Within any depth there is a value, an unexpected token or one that opens a nest too many.
  pub value_or_fault : (depth : ℕ) (ts : List Spelled) → IsSpelling ts
      → IsSpelled (R depth) ts
      ⊎ ((n : ℕ) × ((IsUnexpectedIn W ts n × IsShallow (O depth) ts n)
      ⊎ IsTooDeepIn (O depth) W ts n))
  value_or_fault depth ts is = by_answer (whole (reader depth) ts) refl
    where
      by_answer : (r : Answer A) → whole (reader depth) ts ≡ r
          → IsSpelled (R depth) ts
          ⊎ ((n : ℕ) × ((IsUnexpectedIn W ts n × IsShallow (O depth) ts n)
          ⊎ IsTooDeepIn (O depth) W ts n))
      by_answer (Ok x) e =
          inl (x.0, record { spelling = is; form = read_is_spelled depth ts x.0 x.1 e })
      by_answer (Err (unexpected left)) e =
          inr (
            length ts - left,
            inl (
              fault_is_unexpected depth ts is left e,
              read_is_shallow depth ts (length ts - left) (omega arith) (subst NotDeep (sym e) tt),
            ),
          )
      by_answer (Err (too_deep left)) e =
          inr (length ts - left, inr (fault_is_too_deep depth ts is left e))
