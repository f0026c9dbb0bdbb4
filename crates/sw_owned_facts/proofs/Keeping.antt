-- An actor keeps its colours from one state of the coloured machine to the next.
use Rattle.std.proofs.Common.{◌≡◌, ℕ, Bool, true, false, cond, ltb, Option, Some, None, List, []}
use Rattle.std.proofs.Common.{◌∷◌, ◌++◌, refl, sym, subst, ap, ◌∙◌}
use Rattle.std.specs.Option.{option_and_then}
use Rattle.std.specs.List.{slice_get}
use Rattle.std.proofs.lemmas.Option.{slice_get_within}
use Rattle.sw_list.proofs.ListLemmas.{slice_get_first, some_injective}
use Rattle.sw_graph.specs.declared.graph.Graph.{Graph}
use Rattle.sw_graph.specs.Clean.{IsClean}
use Rattle.sw_graph.specs.Supplied.{IsSupplied}
use Rattle.sw_color_rules.specs.declared.colored.Colored.{Colored}
use Rattle.sw_color_rules.specs.declared.colors.Owner.{Owner}
use Rattle.sw_color_rules.specs.declared.colors.Owner.TheVariants as owner
use Rattle.sw_color_rules.specs.declared.colors.Tint.{Tint}
use Rattle.sw_color_rules.specs.Changes.{Begin, Change, Fresh, HandOver, Mark, Merge, Pop, Push}
use Rattle.sw_color_rules.specs.Machine.{changes_of, colored_reach, colored_step, global_count}
use Rattle.sw_color_rules.specs.Tints.{owned_by, owned_number}
use Rattle.sw_partition.specs.Regions.{Regions}
use Rattle.sw_late_facts.specs.Alike.{job_of}
use Rattle.sw_late_facts.specs.Owners.{KeepNumbers}
use Rattle.sw_late_facts.proofs.Cells.{cells_after, changes_cells}
use Rattle.sw_late_facts.proofs.Names.{joined}
use Rattle.sw_late_facts.proofs.Owners.{early_own}
use Rattle.sw_late_facts.proofs.Reached.{early_next}
use Rattle.sw_late_facts.proofs.Seen.{Jobs, job_united, see, seen}
use Rattle.sw_late_facts.proofs.Showing.{sight, sight_changes}
use Rattle.sw_late_facts.proofs.Sights.{met}
use Rattle.sw_secure_job_facts.specs.Begins.{AreAnnotated}
use Rattle.sw_secure_late_facts.proofs.Coloured.{colored_keep_numbers}
use Rattle.sw_owned_facts.specs.Holding.{colour_with, owner_by}
use Rattle.sw_owned_facts.proofs.Owned.{colored_known}

-- ---- what is one colour stays one
together_next : (c : Change) (s : Jobs) (m n : ℕ) → s.name m ≡ s.name n
    → (see c s).name m ≡ (see c s).name n
together_next (Fresh o) s m n same = same
together_next (Mark tint) s m n same = same
together_next (Push job k) s m n same = same
together_next (Begin k) s m n same = same
together_next (Pop job) s m n same = same
together_next (HandOver k job) s m n same = same
together_next (Merge a b) s m n same = by (ltb a s.count) (ltb b s.count) where
  by : (x y : Bool) → (cond x (cond y (met job_united a b s) s) s).name m
      ≡ (cond x (cond y (met job_united a b s) s) s).name n
  by true true = ap (joined (s.name a) (s.name b)) same
  by true false = same
  by false y = same

pub together_on : (cs : List Change) (s : Jobs) (m n : ℕ) → s.name m ≡ s.name n
    → (seen cs s).name m ≡ (seen cs s).name n
together_on [] s m n same = same
together_on (c ∷ cs) s m n same = together_on cs (see c s) m n (together_next c s m n same)

-- ---- what an actor's cell has noted stays
owned_before : (cells : List Tint) (tint : Tint) (c n : ℕ) → owned_number cells c ≡ Some n
    → owned_number (cells ++ tint ∷ []) c ≡ Some n
unfolding owned_number
owned_before cells tint c n is = by (slice_get cells c) refl where
  by : (o : Option Tint) → slice_get cells c ≡ o
      → option_and_then owned_by (slice_get (cells ++ tint ∷ []) c) ≡ Some n
  by None at = let clash : None ≡ Some n = sym (ap (option_and_then owned_by) at) ∙ is in cc
  by (Some t) at =
      ap (option_and_then owned_by)
      (slice_get_first cells (tint ∷ []) c (slice_get_within cells c t at)) ∙ is

owned_on : (cs : List Change) (cells : List Tint) (c n : ℕ) → owned_number cells c ≡ Some n
    → owned_number (cells_after cs cells) c ≡ Some n
owned_on [] cells c n is = is
owned_on (Fresh o ∷ cs) cells c n is = owned_on cs cells c n is
owned_on (Mark tint ∷ cs) cells c n is =
    owned_on cs (cells ++ tint ∷ []) c n (owned_before cells tint c n is)
owned_on (Push job k ∷ cs) cells c n is = owned_on cs cells c n is
owned_on (Begin k ∷ cs) cells c n is = owned_on cs cells c n is
owned_on (Pop job ∷ cs) cells c n is = owned_on cs cells c n is
owned_on (Merge a b ∷ cs) cells c n is = owned_on cs cells c n is
owned_on (HandOver k job ∷ cs) cells c n is = owned_on cs cells c n is

-- ---- a step
module _ (graph : Graph) (clean : IsClean graph) (supplied : IsSupplied graph)
    (states : ℕ → List (Option Regions)) (annotated : AreAnnotated graph states) (items : List ℕ)
    (item : ℕ) where
  abbrev before : Colored
  before = colored_reach graph items

  abbrev pub after : Colored
  after = colored_step graph (colored_reach graph items) item

  keep : KeepNumbers (global_count graph.functions)
      (colored_step graph (colored_reach graph items) item).colors
  keep = subst (λ (colored : Colored). KeepNumbers (global_count graph.functions) colored.colors)
      (early_next graph items item)
      (colored_keep_numbers graph clean supplied states annotated (items ++ item ∷ []))

  together : (m n : ℕ) → colour_with (colored_reach graph items) m
      ≡ colour_with (colored_reach graph items) n
      → colour_with (colored_step graph (colored_reach graph items) item) m
      ≡ colour_with (colored_step graph (colored_reach graph items) item) n
  unfolding colored_step
  together m n same =
      ap (λ (s : Jobs). s.name m) shown
      ∙ together_on (changes_of graph before item) (sight before.colors.palette) m n same
      ∙ sym (ap (λ (s : Jobs). s.name n) shown)
    where
      shown : sight (colored_step graph (colored_reach graph items) item).colors.palette
          ≡ seen (changes_of graph (colored_reach graph items) item)
          (sight (colored_reach graph items).colors.palette)
      shown = sight_changes (changes_of graph before item) before.colors
          (colored_known graph clean supplied states annotated items).late.whole

  noted : (c n : ℕ) → owned_number before.colors.cells c ≡ Some n
      → owned_number (colored_step graph (colored_reach graph items) item).colors.cells c ≡ Some n
  unfolding colored_step
  noted c n is =
      ap (λ (ts : List Tint). owned_number ts c)
      (changes_cells (changes_of graph before item) before.colors)
      ∙ owned_on (changes_of graph before item) before.colors.cells c n is

  -- an actor keeps its colours
  pub keeps : (n : ℕ) (one : Owner) → job_of (Some one) ≡ None
      → owner_by (colored_reach graph items) n ≡ Some one
      → owner_by (colored_step graph (colored_reach graph items) item) n ≡ Some one
  keeps n (owner.Job j) actor is = absurd (let clash : ⊥ = cc in clash)
  keeps n (owner.ActorOf c) actor is =
      let own = (early_own graph items).actors n c is in
      ap (slice_get after.colors.palette.owners) (sym (together own.0 n own.2))
      ∙ keep.actors c own.0 (noted c own.0 own.1)
  keeps n (owner.Global g) actor is =
      let own = (early_own graph items).globals n g is in
      ap (slice_get after.colors.palette.owners) (sym (together g n own.1))
      ∙ keep.globals g own.0

  -- so colours of two actors don't become one
  pub actors_apart : (n m : ℕ) (one other : Owner) → job_of (Some one) ≡ None
      → job_of (Some other) ≡ None → owner_by (colored_reach graph items) n ≡ Some one
      → owner_by (colored_reach graph items) m ≡ Some other
      → colour_with (colored_step graph (colored_reach graph items) item) n
      ≡ colour_with (colored_step graph (colored_reach graph items) item) m → one ≡ other
  actors_apart n m one other actor also is too same =
      some_injective (sym (keeps n one actor is)
      ∙ ap (slice_get after.colors.palette.owners) same ∙ keeps m other also too)
