-- What a program lacks whose functions aren't made.
use Rattle.std.proofs.Common.{◌≡◌, ◌<◌, ◌≤◌, ◌+◌, ◌^◌, inl, inr, ℕ, List, [], ◌∷◌, ◌++◌, Option, Some, None, map}
use Rattle.std.proofs.Common.{option_map, slice_get, get_or, drop, length, ap, arith, refl, sym}
use Rattle.std.proofs.Common.{◌∙◌, subst}
use Rattle.std.proofs.lemmas.List.{get_or-map, length-map}
use Rattle.std.proofs.lemmas.Option.{same_Some, slice_get-map}
use Rattle.std.specs.Prelude.{◌≢◌, Contains, Err}
use Rattle.std.specs.List.Sorted.{IsNonDecreasingBy, IsPermutation}
use Rattle.sw_tree.specs.declared.decl.Decl.{Decl}
use Rattle.sw_decls.specs.declared.signature.GlobalVar.{GlobalVar}
use Rattle.sw_typing_rules.specs.Worlds.{and_then}
use Rattle.sw_lower_draft.specs.Drafts.{number_by}
use Rattle.sw_lower_draft.specs.declared.numbers.NumberTable.{NumberTable}
use Rattle.sw_lower_plans.specs.Plan.{Numbers}
use Rattle.sw_lower_plans.specs.declared.name.FunctionName.{FunctionName}
use Rattle.sw_lower_bodies.specs.Trees.{bodies_by, body_by}
use Rattle.sw_lower_bodies.specs.declared.body_tree.BodyTree.{BodyTree}
use Rattle.sw_lower_code.specs.Whole.{Body, HasManyBlocks, lower_body}
use Rattle.sw_lower_code.specs.declared.fault.BodyFault.TheVariants as body_faults
use Rattle.sw_lower_known.specs.Knowledge.{tables_by}
use Rattle.sw_lower_known.specs.declared.known.Known.{Known}
use Rattle.sw_lower_rules.specs.Bodies.{AreNumbered, AreOrdered, AreStarts, IsEntryNumber, Lacks}
use Rattle.sw_lower_rules.specs.Bodies.{LacksIn, entry_key, lacks_asked, lacks_blocks, lacks_entry}
use Rattle.sw_lower_rules.specs.Bodies.{lacks_names, lacks_numbers, lacks_starts, numbers_of, program_bodies, starts_in}
use Rattle.sw_lower_rules.specs.Tables.{Tables, name_of, number_in, plain}
use Rattle.sw_lower.specs.Lowered.{AsksInVain, FailsFor, IsFaultOf, SomeAsks}
use Rattle.sw_lower.specs.Ordered.{AreFound, tree_name, tree_order}
use Rattle.sw_lower.specs.declared.fault.LowerFault.{LowerFault}
use Rattle.sw_lower.specs.declared.fault.LowerFault.TheVariants as faults
use Rattle.sw_lower.proofs.Programs.{bodies_moved, names_are, next_left, order_kept}
use Rattle.sw_lower.proofs.Programs.{same_numbers}

-- What fails for something fails for what follows from it.
pub still_fails : {P Q : Type 0} → (P → Q) → (fault : LowerFault) → FailsFor P fault
    → FailsFor Q fault
still_fails follows (faults.Breach code at) fails = absurd fails
still_fails follows faults.Missing fails = follows fails
still_fails follows faults.Memory fails = tt

pub fails_of : (tables : Tables) (decls : List Decl) (fault : LowerFault)
    → FailsFor (Lacks tables decls) fault → IsFaultOf tables decls fault
fails_of tables decls (faults.Breach code at) fails = absurd fails
fails_of tables decls faults.Missing fails = fails
fails_of tables decls faults.Memory fails = tt

-- the bodies of a program's trees in order
pub trees_ordered : (tables : Tables) (decls : List Decl) (found trees : List BodyTree)
    → bodies_by tables found ≡ program_bodies tables decls → IsPermutation found trees
    → IsNonDecreasingBy tree_order trees → AreOrdered tables decls (bodies_by tables trees)
trees_ordered tables decls found trees are same in_order = record {
  bodies = subst (λ bodies. IsPermutation bodies (bodies_by tables trees)) are
      (bodies_moved tables found trees same);
  in_order = order_kept tables trees in_order;
}

-- Where each body is found by its name, each name is found.
names_found : (tables : Tables) (trees : List BodyTree) → AreNumbered (bodies_by tables trees)
    → AreFound (map tree_name trees)
unfolding bodies_by
names_found tables trees numbered number name at =
    by (slice_get bodies number) refl
    (sym (slice_get-map name_of bodies number)
    ∙ (ap (λ names. slice_get names number) (names_are tables trees) ∙ at)) where
      bodies : List Body
      bodies = map (body_by tables) trees

      by : (found : Option Body) → slice_get bodies number ≡ found
          → option_map name_of found ≡ Some name
          → number_in (map tree_name trees) name ≡ Some number
      by None is named = cc
      by (Some body) is named =
          subst (λ one. number_in (map tree_name trees) one ≡ Some number)
          (same_Some (name_of body) name named)
          (subst (λ names. number_in names (name_of body) ≡ Some number) (names_are tables trees)
          (numbered number body is))

-- Two bodies of a program have one name.
pub names_lack : (tables : Tables) (decls : List Decl) (trees : List BodyTree)
    → AreOrdered tables decls (bodies_by tables trees) → ¬ (AreFound (map tree_name trees))
    → Lacks tables decls
names_lack tables decls trees are unfound = (
  bodies_by tables trees,
  are,
  lacks_names (λ numbered.
      unfound (names_found tables trees numbered)),
)

-- There are more bodies than numbers.
pub many_lack : (tables : Tables) (decls : List Decl) (trees : List BodyTree)
    → AreOrdered tables decls (bodies_by tables trees) → 2 ^ 32 ≤ length trees
    → Lacks tables decls
unfolding bodies_by
many_lack tables decls trees are many = (
  bodies_by tables trees,
  are,
  lacks_numbers (omega (arith, many, length-map trees (body_by tables))),
)

-- an element, and what is made of it
contains_made : {X Y : Type 0} (f : X → Y) (xs : List X) (x : X) → Contains xs x
    → Contains (map f xs) (f x)
contains_made f xs x (k, below, is) =
    (k, omega (arith, below, length-map xs f), get_or-map f xs k x (f x) below ∙ ap f is)

-- Numbers of which one is missing are not all numbers.
not_all : (found starts : List ℕ) (others : List (Option ℕ))
    → map Some starts ≡ map Some found ++ None ∷ others → ⊥
not_all [] [] others is = cc
not_all [] (start ∷ starts) others is = cc
not_all (one ∷ found) [] others is = cc
not_all (one ∷ found) (start ∷ starts) others is =
    not_all found starts others (ap (λ (list : List (Option ℕ)). drop 1 list) is)

-- What gives the next global variable its first value has no number.
pub start_missing : (numbers : Numbers) (globals : List GlobalVar) (i : ℕ) (global : GlobalVar)
    (found : List ℕ) → i < length globals → global ≡ get_or globals i global
    → map Some found ++ starts_in numbers (drop i globals) ≡ starts_in numbers globals
    → numbers (plain global.key.at) ≡ None → (starts : List ℕ)
    → map Some starts ≢ starts_in numbers globals
start_missing numbers globals i global found below is left none starts are =
    let others = starts_in numbers (drop (i + 1) globals) in
    not_all found starts others
    (are ∙ (sym left ∙ ap (λ list. map Some found ++ list)
    (ap (starts_in numbers) (next_left globals i global below is)
    ∙ ap (λ one. one ∷ others) none)))

module _ (known : Known) (numbers : NumberTable) (decls : List Decl) (trees : List BodyTree)
    (named : (name : FunctionName) → number_by numbers name
    ≡ number_in (map tree_name trees) name)
    (are : AreOrdered (tables_by known) decls (bodies_by (tables_by known) trees)) where
  abbrev bodies : List Body
  bodies = bodies_by (tables_by known) trees

  -- the numbers of the table are those of the bodies
  numbered : number_by numbers ≡ numbers_of bodies
  unfolding bodies_by
  numbered = same_numbers known numbers trees named

  -- The code of a body asks for what isn't known, or makes too many blocks.
  pub asked_lacks : SomeAsks known numbers trees → Lacks (tables_by known) decls
  unfolding bodies_by
  asked_lacks (tree, among, asks) = (bodies, are, by asks) where
    body : Body
    body = body_by (tables_by known) tree

    is_there : Contains bodies body
    is_there = contains_made (body_by (tables_by known)) trees tree among

    by : AsksInVain known numbers tree → LacksIn (tables_by known).world decls bodies
    by (inl asks) =
        lacks_asked body is_there
        (subst (λ (by : Numbers). lower_body by body ≡ Err body_faults.Missing) numbered asks)
    by (inr many) =
        lacks_blocks body is_there
        (subst (λ (by : Numbers). HasManyBlocks by body) numbered many)

  -- The entry has no number.
  pub entry_lacks : and_then (entry_key decls) (λ key. number_by numbers (plain key)) ≡ None
      → Lacks (tables_by known) decls
  entry_lacks none = (bodies, are, lacks_entry unknown) where
    none_is : and_then (entry_key decls) (λ key. numbers_of bodies (plain key)) ≡ None
    none_is = subst (λ (by : Numbers). and_then (entry_key decls) (λ key. by (plain key)) ≡ None)
        numbered none

    unknown : ¬ ((entry : ℕ) × IsEntryNumber decls bodies entry)
    unknown (entry, is) = cc (is, none_is)

  -- What gives some global variable its first value has no number.
  pub starts_lack : (globals : List GlobalVar) → globals ≡ (tables_by known).world.globals
      → ((starts : List ℕ) → map Some starts ≢ starts_in (number_by numbers) globals)
      → Lacks (tables_by known) decls
  starts_lack globals same none = (bodies, are, lacks_starts unknown) where
    unknown : ¬ ((starts : List ℕ) × AreStarts (tables_by known).world bodies starts)
    unknown (starts, are) =
        none starts
        (subst (λ (by : Numbers). map Some starts ≡ starts_in by globals) (sym numbered)
        (subst (λ (list : List GlobalVar). map Some starts ≡ starts_in (numbers_of bodies) list)
        (sym same) are))
