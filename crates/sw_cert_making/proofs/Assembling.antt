-- The lines of a graph's certificate, block by block and function by function.
use Rattle.std.proofs.Common.{◌≡◌, ℕ, zero, suc, ◌+◌, ◌<◌, ◌≤◌, inl, inr, Option, Some}
use Rattle.std.proofs.Common.{None, IsSome, List, [], ◌∷◌, ◌++◌, length, Contains, get_or, refl, sym}
use Rattle.std.proofs.Common.{subst, ap, ◌∙◌, arith}
use Rattle.std.proofs.lemmas.Bool.{cases_eq}
use Rattle.std.proofs.lemmas.List.{append_assoc, append-nil}
use Rattle.std.proofs.lemmas.List.Concat.{flat_map-append}
use Rattle.std.proofs.lemmas.List.Elements.{Contains-append_cases, Contains-append_left}
use Rattle.std.proofs.lemmas.List.Elements.{Contains-append_right, Contains-get_or, Contains-push}
use Rattle.std.proofs.lemmas.List.Elements.{Contains-push_cases}
use Rattle.std.proofs.lemmas.List.Kept.{AllPairs-cons}
use Rattle.std.proofs.lemmas.List.Quantifiers.{all_pairs_push}
use Rattle.std.proofs.lemmas.Option.{same_Some, slice_get_within}
use Rattle.std.specs.List.{AllPairs, slice_get}
use Rattle.sw_dictation.specs.Lines.{line_text}
use Rattle.sw_graph.specs.declared.function.Function.{Function}
use Rattle.sw_graph.specs.declared.graph.Graph.{Graph}
use Rattle.sw_partition.specs.Regions.{Regions}
use Rattle.sw_region_flow.specs.Analysis.{targets_at}
use Rattle.sw_region_ops.specs.Setting.{setting_of}
use Rattle.sw_solve.specs.Annotation.{value_at}
use Rattle.sw_solve.specs.Ways.{HasWay}
use Rattle.sw_cert_making.proofs.LeastBlocks.{stands_on_way}
use Rattle.sw_cert.proofs.Lining.{text_push}
use Rattle.sw_cert.specs.Certificate.{numbers_of}
use Rattle.sw_cert_making.specs.Made.{IsLineAdded, IsBlockLine, AreLinesAdded, IsFunctionAdded}
use Rattle.sw_cert_making.specs.Made.{IsMadeBelow}
use Rattle.sw_cert_making.specs.Printed.{IsLineBefore, HasLineOf, IsLeastCertificate}
use Rattle.sw_cert.specs.ReadLines.{text_of}
use Rattle.sw_cert.specs.Shown.{IsLineFor}
use Rattle.sw_cert.specs.declared.line.Line.{Line}

nothing : {X : Type 0} (o : Option X) → o ≡ None → IsSome o → ⊥
nothing o none some = cc

no_line : {A : Type 0} (line : Line) → Contains [] line → A
no_line line (k, within, e) = absurd (omega arith)

text_append : (xs ys : List Line) → text_of (xs ++ ys) ≡ text_of xs ++ text_of ys
text_append xs ys = flat_map-append (λ line. line_text (numbers_of line)) xs ys

more_lines : (xs ys : List Line) (function block : ℕ) → HasLineOf xs function block
    → HasLineOf (xs ++ ys) function block
more_lines xs ys function block has = record {
  line = has.line;
  is_line = Contains-append_left xs ys has.line has.is_line;
  function_is = has.function_is;
  block_is = has.block_is;
}

-- ---- the blocks of a function
pub lines_start : (function : ℕ) (states : List (Option Regions)) (text : List ℕ)
    → AreLinesAdded function states 0 text text
lines_start function states text = record {
  lines = [];
  of_blocks = λ line has. no_line line has;
  below = λ line has. no_line line has;
  all = λ block lt some. absurd (omega (arith, lt));
  rising = λ i j d lt within. absurd (omega (arith, within));
  added = sym (append-nil text);
}

-- a block at which nothing stands
skip_block : (function : ℕ) (states : List (Option Regions)) (count : ℕ) (old new : List ℕ)
    → value_at states count ≡ None → AreLinesAdded function states count old new
    → AreLinesAdded function states (count + 1) old new
skip_block function states count old new none so_far = record {
  lines = so_far.lines;
  of_blocks = so_far.of_blocks;
  below = λ line has. let h = so_far.below line has in omega (arith, h);
  all = λ block lt some. elim (cases_eq block count) [
    | inl e ↦ absurd (nothing (value_at states block) (ap (value_at states) e ∙ none) some)
    | inr ne ↦ so_far.all block (omega (arith, lt, ne)) some
  ];
  rising = so_far.rising;
  added = so_far.added;
}

-- a block at which a state stands
push_block : (function : ℕ) (states : List (Option Regions)) (count : ℕ) (state : Regions)
    (old was line new : List ℕ) → value_at states count ≡ Some state
    → AreLinesAdded function states count old was → IsLineFor function count state line
    → new ≡ was ++ line → AreLinesAdded function states (count + 1) old new
push_block function states count state old was line new stands so_far is added = record {
  lines = so_far.lines ++ is.line ∷ [];
  of_blocks = λ other has. elim (Contains-push_cases so_far.lines is.line other has) [
    | inl early ↦ so_far.of_blocks other early
    | inr e ↦ subst (IsBlockLine function states) e (record {
      function_is = is.function_is;
      state = state;
      stands = ap (value_at states) is.block_is ∙ stands;
      shows = is.shows;
    })
  ];
  below = λ other has. elim (Contains-push_cases so_far.lines is.line other has) [
    | inl early ↦ (let h = so_far.below other early in omega (arith, h))
    | inr e ↦ subst (λ (l : Line). l.block < count + 1) e (omega (arith, is.block_is))
  ];
  all = λ block lt some. elim (cases_eq block count) [
    | inl e ↦ record {
      line = is.line;
      is_line = Contains-push so_far.lines is.line;
      function_is = is.function_is;
      block_is = is.block_is ∙ sym e;
    }
    | inr ne ↦ more_lines so_far.lines (is.line ∷ []) function block
        (so_far.all block (omega (arith, lt, ne)) some)
  ];
  rising = all_pairs_push IsLineBefore so_far.lines is.line so_far.rising
      (λ k d within. before (get_or so_far.lines k d) (Contains-get_or so_far.lines k d within));
  added = added ∙ ap (λ t. t ++ line) so_far.added ∙ joined;
}
  where
    before : (other : Line) → Contains so_far.lines other → IsLineBefore other is.line
    before other has = inr (
      (so_far.of_blocks other has).function_is ∙ sym is.function_is,
      (let h = so_far.below other has in omega (arith, h, is.block_is)),
    )

    joined : (old ++ text_of so_far.lines) ++ line ≡ old ++ text_of (so_far.lines ++ is.line ∷ [])
    joined = append_assoc old (text_of so_far.lines) line
        ∙ ap (λ t. old ++ t) (ap (λ t. text_of so_far.lines ++ t) is.spelled
        ∙ sym (text_push so_far.lines is.line))

pub lines_more : (function : ℕ) (states : List (Option Regions)) (count : ℕ) (o : Option Regions)
    (old was new : List ℕ) → value_at states count ≡ o
    → AreLinesAdded function states count old was → IsLineAdded function count o was new
    → AreLinesAdded function states (count + 1) old new
lines_more function states count None old was new stands so_far same =
    subst (AreLinesAdded function states (count + 1) old) (sym same)
    (skip_block function states count old was stands so_far)
lines_more function states count (Some state) old was new stands so_far (line, is, added) =
    push_block function states count state old was line new stands so_far is added

-- ---- the functions of a graph
pub made_start : (graph : Graph) (text : List ℕ) → text ≡ [] → IsMadeBelow graph 0 text
made_start graph text e = record {
  lines = [];
  least = λ line has. no_line line has;
  below = λ line has. no_line line has;
  all = λ function body block lt is way. absurd (omega (arith, lt));
  rising = λ i j d lt within. absurd (omega (arith, within));
  spelled = e;
}

-- lists that rise, each of the first before each of the second
rising_append : (xs ys : List Line) → AllPairs IsLineBefore xs → AllPairs IsLineBefore ys
    → ((one other : Line) → Contains xs one → Contains ys other → IsLineBefore one other)
    → AllPairs IsLineBefore (xs ++ ys)
rising_append [] ys first second across = second
rising_append (x ∷ xs) ys first second across = AllPairs-cons IsLineBefore x (xs ++ ys)
    (λ k d within. head (get_or (xs ++ ys) k d) (Contains-get_or (xs ++ ys) k d within))
    (rising_append xs ys
    (λ i j d lt within. first (suc i) (suc j) d (omega (arith, lt)) (omega (arith, within))) second
    (λ one other has. across one other (later one has)))
  where
    later : (one : Line) → Contains xs one → Contains (x ∷ xs) one
    later one (k, within, e) = (suc k, omega (arith, within), e)

    head : (other : Line) → Contains (xs ++ ys) other → IsLineBefore x other
    head other has = elim (Contains-append_cases xs ys other has) [
      | inl (k, within, e) ↦ subst (IsLineBefore x) e
          (first zero (suc k) other (omega arith) (omega (arith, within)))
      | inr there ↦ across x other (zero, omega arith, refl) there
    ]

pub made_more : (graph : Graph) (count : ℕ) (body : Function) (was new : List ℕ)
    → slice_get graph.functions count ≡ Some body → IsMadeBelow graph count was
    → IsFunctionAdded graph count body was new → IsMadeBelow graph (count + 1) new
made_more graph count body was new is so_far more = record {
  lines = so_far.lines ++ more.added.lines;
  least = λ line has. elim (Contains-append_cases so_far.lines more.added.lines line has) [
    | inl before ↦ so_far.least line before
    | inr here ↦ (let h = more.added.of_blocks line here in record {
      body = body;
      is_body = ap (slice_get graph.functions) h.function_is ∙ is;
      states = more.states;
      least = more.least;
      state = h.state;
      stands = h.stands;
      shows = h.shows;
    })
  ];
  below = λ line has. elim (Contains-append_cases so_far.lines more.added.lines line has) [
    | inl before ↦ (let h = so_far.below line before in omega (arith, h))
    | inr here ↦ (let h = (more.added.of_blocks line here).function_is in omega (arith, h))
  ];
  all = λ function other block lt is_other way. elim (cases_eq function count) [
    | inl e ↦ here function block other e is_other way
    | inr ne ↦ more_lines so_far.lines more.added.lines function block
        (so_far.all function other block (omega (arith, lt, ne)) is_other way)
  ];
  rising = rising_append so_far.lines more.added.lines so_far.rising more.added.rising
      (λ one other has there. inl (let h = so_far.below one has in
      let k = (more.added.of_blocks other there).function_is in omega (arith, h, k)));
  spelled = more.added.added ∙ ap (λ t. t ++ text_of more.added.lines) so_far.spelled
      ∙ sym (text_append so_far.lines more.added.lines);
}
  where
    here : (function block : ℕ) (other : Function) → function ≡ count
        → slice_get graph.functions function ≡ Some other
        → HasWay (targets_at other.blocks) block
        → HasLineOf (so_far.lines ++ more.added.lines) function block
    here function block other e is_other way =
        let one = same_Some other body (sym is_other ∙ ap (slice_get graph.functions) e ∙ is) in
        let path = subst (λ (b : Function). HasWay (targets_at b.blocks) block) one way in
        let some = stands_on_way (record {
          setting = setting_of graph body;
          sites = more.least.sites;
        }) more.states more.least.least.closed path.0 block path.1 in
        let has = more.added.all block (within block some) some in record {
          line = has.line;
          is_line = Contains-append_right so_far.lines more.added.lines has.line has.is_line;
          function_is = has.function_is ∙ sym e;
          block_is = has.block_is;
        }
      where
        within : (block : ℕ) → IsSome (value_at more.states block) → block < length body.blocks
        within block some = by (value_at more.states block) refl some
          where
            by : (o : Option Regions) → value_at more.states block ≡ o → IsSome o
                → block < length body.blocks
            by None e none = cc
            by (Some state) e some = (more.least.least.closed.stepped block state e).leads_to.0

pub made_all : (graph : Graph) (count : ℕ) (text : List ℕ) → length graph.functions ≤ count
    → IsMadeBelow graph count text → IsLeastCertificate graph text
made_all graph count text past made = record {
  lines = made.lines;
  least = made.least;
  all = λ function body block is way.
      made.all function body block (inside function body is) is way;
  rising = made.rising;
  spelled = made.spelled;
}
  where
    inside : (function : ℕ) (body : Function) → slice_get graph.functions function ≡ Some body
        → function < count
    inside function body is =
        let h = slice_get_within graph.functions function body is in omega (arith, h, past)
