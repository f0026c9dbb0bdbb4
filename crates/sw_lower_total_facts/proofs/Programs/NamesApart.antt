-- Each body of a program is found by its name.
use Rattle.std.proofs.Common.{◌≡◌, ℕ, zero, suc, ◌+◌, ◌≤◌, Bool, true, false, List, [], ◌∷◌, Some}
use Rattle.std.proofs.Common.{map, refl, ap, sym, ◌∙◌, arith}
use Rattle.std.proofs.lemmas.Bool.{eqb-true}
use Rattle.std.proofs.lemmas.List.Sorted.{sum_by-IsPermutation}
use Rattle.std.proofs.lemmas.List.Sums.{sum_by-cons}
use Rattle.std.proofs.lemmas.Option.{same_Some}
use Rattle.std.specs.List.{sum_by}
use Rattle.std.specs.List.Sorted.{IsPermutation}
use Rattle.std.specs.Prelude.{◌==◌, ◌&&◌, if◌then◌else◌, slice_get}
use Rattle.sw_tree.specs.Contents.{AreKeyed}
use Rattle.sw_tree.specs.declared.decl.Decl.{Decl}
use Rattle.sw_tree.proofs.Counting.{Weight, hits, hits_same, in_all, in_all-cons, in_all-nil}
use Rattle.sw_decls.specs.declared.signature.AsyncDefault.{AsyncDefault}
use Rattle.sw_typing_rules.specs.Worlds.{IsWorldOf, World}
use Rattle.sw_isolation_rules.specs.Answers.{Answers}
use Rattle.sw_lower_code.specs.Whole.{Body}
use Rattle.sw_lower_rules.specs.Bodies.{AreNumbered, AreOrdered, program_bodies, tables_of}
use Rattle.sw_lower_rules.specs.Tables.{Isolation, is_named, is_same, name_of, number_from}
use Rattle.sw_typing_facts.proofs.Programs.Keyed.{counted_at}
use Rattle.sw_lower_total_facts.proofs.Programs.BodyCounts.{named_so, once_named}
use Rattle.sw_lower_total_facts.proofs.Programs.Numbered.{named_itself}

-- A body whose name is that of another counts at its key.
named_counts : (one body : Body) → is_named (name_of one) (name_of body) ≡ true
    → named_so body.getter one body.key ≡ 1
named_counts one body named =
    by (one.key == body.key) (is_same one.getter body.getter) refl refl named where
      by : (key same : Bool) → (one.key == body.key) ≡ key
          → is_same one.getter body.getter ≡ same → (key && same) ≡ true
          → named_so body.getter one body.key ≡ 1
      by true true key same both =
          ap (λ test. if test then hits one.key body.key else 0) same
          ∙ ap (λ at. hits at body.key) (eqb-true one.key body.key key) ∙ hits_same body.key
      by true false key same both = cc
      by false same key is both = cc

-- Where one body at most has a name, it is the first with the name.
numbered_from : (from : ℕ) (bodies : List Body) (place : ℕ) (body : Body)
    → slice_get bodies place ≡ Some body
    → in_all (named_so body.getter) bodies body.key ≤ 1
    → number_from from (map name_of bodies) (name_of body) ≡ Some (from + place)
numbered_from from [] place body at once = cc
numbered_from from (one ∷ bodies) zero body at once =
    let named : is_named (name_of one) (name_of body) ≡ true =
    ap (λ (x : Body). is_named (name_of x) (name_of body)) (same_Some one body at)
    ∙ named_itself (name_of body) in
    ap (λ test. if test then Some from
    else number_from (from + 1) (map name_of bodies) (name_of body)) named
    ∙ ap Some (let here : from ≡ from + zero = omega arith in here)
numbered_from from (one ∷ bodies) (suc place) body at once =
    by (is_named (name_of one) (name_of body)) refl
    (λ few. numbered_from (from + 1) bodies place body at few)
  where
    w : Body → Weight
    w = named_so body.getter

    own : w body body.key ≡ 1
    own = named_counts body body (named_itself (name_of body))

    by : (named : Bool) → is_named (name_of one) (name_of body) ≡ named
        → (in_all (named_so body.getter) bodies body.key ≤ 1
        → number_from (from + 1) (map name_of bodies) (name_of body) ≡ Some ((from + 1) + place))
        → number_from from (map name_of (one ∷ bodies)) (name_of body) ≡ Some (from + suc place)
    by true named later =
        absurd (omega (
          arith,
          once,
          in_all-cons w one bodies body.key,
          named_counts one body named,
          counted_at w bodies place body body.key at,
          own,
        ))
    by false named later =
        ap (λ test. if test then Some from
        else number_from (from + 1) (map name_of bodies) (name_of body)) named
        ∙ later (omega (arith, once, in_all-cons w one bodies body.key))
        ∙ ap Some (let next : (from + 1) + place ≡ from + suc place = omega arith in next)

-- a count is a sum
counted_sum : (w : Body → Weight) (k : ℕ) (bodies : List Body)
    → in_all w bodies k ≡ sum_by (λ body. w body k) bodies
counted_sum w k [] = in_all-nil w k
counted_sum w k (body ∷ bodies) =
    omega (
      arith,
      in_all-cons w body bodies k,
      sum_by-cons (λ body. w body k) body bodies,
      counted_sum w k bodies,
    )

-- So bodies in another order count as much.
counted_moved : (w : Body → Weight) (k : ℕ) (bodies ordered : List Body)
    → IsPermutation bodies ordered → in_all w ordered k ≡ in_all w bodies k
counted_moved w k bodies ordered moved =
    counted_sum w k ordered
    ∙ sum_by-IsPermutation (λ body. w body k) bodies ordered moved
    ∙ sym (counted_sum w k bodies)

-- Each body of a program is found by its name.
pub names_are_apart : (world : World) (answers : Answers) (isolation : Isolation)
    (decls : List Decl) (rule : AsyncDefault) → AreKeyed decls → IsWorldOf decls rule world
    → (ordered : List Body) → AreOrdered (tables_of world answers isolation decls) decls ordered
    → AreNumbered ordered
names_are_apart world answers isolation decls rule keyed is ordered are number body at =
    let w : Body → Weight = named_so body.getter in
    let tables = tables_of world answers isolation decls in
    numbered_from 0 ordered number body at
    (omega (
      arith,
      counted_moved w body.key (program_bodies tables decls) ordered are.bodies,
      once_named world answers isolation decls rule is body.getter body.key keyed,
    ))
    ∙ ap Some (let here : 0 + number ≡ number = omega arith in here)
