-- Which variables are in boxes: those that a closure captures by reference, each declared by `var`.
use Rattle.std.proofs.Common.{◌≡◌, ℕ, Bool, true, false, List, flat_map, Contains, ap, sym, ◌∙◌}
use Rattle.std.proofs.Common.{subst, not}
use Rattle.std.proofs.lemmas.Bool.{false≢true}
use Rattle.std.specs.Prelude.{◌&&◌, ◌==◌}
use Rattle.sw_tree.proofs.Members.{in_map, of_map}
use Rattle.sw_isolation_rules.specs.Captures.{is_among}
use Rattle.sw_isolation_rules.specs.Lists.{boxes_in, by_reference, capture_of, captures_in, held_in}
use Rattle.sw_isolation_rules.specs.Lists.{vars_in}
use Rattle.sw_isolation_rules.specs.declared.note.Capture.{Capture}
use Rattle.sw_isolation_rules.specs.declared.note.Captured.{Captured as Held}
use Rattle.sw_isolation_rules.specs.declared.note.Mention.{Mention}
use Rattle.sw_isolation_rules.specs.declared.note.Note.{Note}
use Rattle.sw_lower_rules.specs.Tables.{Isolation, Tables, isolation_in}
use Rattle.sw_lower_total_facts.proofs.Closures.Kept.{among_in, in_among, kept_in, of_kept}
use Rattle.sw_lower_total_facts.proofs.Closures.Noted.{capture_as}

-- Both of two tests hold where both together do.
both_hold : (one other : Bool) → (one && other) ≡ true → (one ≡ true) × (other ≡ true)
both_hold true true is = (is, is)
both_hold true false is = absurd (false≢true is)
both_hold false other is = absurd (false≢true is)

-- what isn't true is false
is_false : (one : Bool) → not one ≡ true → one ≡ false
is_false true is = absurd (false≢true is)
is_false false is = cc

-- What is captured by reference is declared by `var`, and no closure around lists it.
pub ref_is_var : (all : List Note) (closure : ℕ) (listed : List ℕ) (one : Mention)
    → (capture_as all closure listed one).by_ref ≡ true
    → (is_among (vars_in all) one.variable ≡ true) × (is_among listed one.variable ≡ false)
ref_is_var all closure listed one is =
    let both = both_hold (is_among (vars_in all) one.variable)
    (not (is_among listed one.variable)) is in
    (both.0, is_false (is_among listed one.variable) both.1)

-- A `var` that no closure around lists is captured by reference.
pub var_is_ref : (all : List Note) (closure : ℕ) (listed : List ℕ) (one : Mention)
    → is_among (vars_in all) one.variable ≡ true → is_among listed one.variable ≡ false
    → (capture_as all closure listed one).by_ref ≡ true
var_is_ref all closure listed one is_var unlisted =
    ap (λ var. var && not (is_among listed one.variable)) is_var ∙ ap not unlisted

module _ (tables : Tables) (all : List Note) (noted : tables.isolation ≡ isolation_in all) where
  -- the variables in boxes are those of the notes
  boxes_are : (key : ℕ) → tables.isolation.is_boxed key ≡ is_among (boxes_in all) key
  boxes_are key = ap (λ (isolation : Isolation). isolation.is_boxed key) noted

  -- A variable in a box is declared by `var`.
  pub boxed_is_var : (key : ℕ) → tables.isolation.is_boxed key ≡ true
      → is_among (vars_in all) key ≡ true
  boxed_is_var key boxed =
      let (one, among, is) = of_map (λ (one : Capture). one.variable)
      (by_reference (captures_in all)) key
      (among_in (boxes_in all) key (sym (boxes_are key) ∙ boxed)) in
      let (found, by_ref) = of_kept (λ (one : Capture). one.by_ref) (captures_in all) one among in
      let (held, in_all, same) = of_map (capture_of (vars_in all)) (flat_map held_in all) one
      found in
      subst (λ key. is_among (vars_in all) key ≡ true) is
      (declared held one same by_ref) where
        declared : (held : Held) (one : Capture) → capture_of (vars_in all) held ≡ one
            → one.by_ref ≡ true → is_among (vars_in all) one.variable ≡ true
        declared held one same by_ref =
            subst (λ (other : Capture). is_among (vars_in all) other.variable ≡ true) same
            (both_hold (is_among (vars_in all) held.mention.variable) (not held.listed)
            (ap (λ (other : Capture). other.by_ref) same ∙ by_ref)).0

  -- What a closure captures by reference is in a box.
  pub ref_is_boxed : (closure : ℕ) (one : Capture)
      → Contains (tables.isolation.captures_of closure) one → one.by_ref ≡ true
      → tables.isolation.is_boxed one.variable ≡ true
  ref_is_boxed closure one has by_ref =
      let captures = subst (λ list. Contains list one)
      (ap (λ (isolation : Isolation). isolation.captures_of closure) noted) has in
      let found = of_kept (λ (other : Capture). other.closure == closure) (captures_in all) one
      captures in
      boxes_are one.variable
      ∙ in_among (boxes_in all) one.variable
      (in_map (λ (other : Capture). other.variable) (by_reference (captures_in all)) one
      (kept_in (λ (other : Capture). other.by_ref) (captures_in all) one found.0 by_ref))
