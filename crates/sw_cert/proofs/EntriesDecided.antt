-- Which function's entry has no state that includes what enters, can be decided.
use Rattle.std.proofs.Common.{ℕ, ◌⊎◌, inl, inr, length, sym, subst}
use Rattle.std.proofs.lemmas.Option.{slice_get_within}
use Rattle.std.specs.List.{slice_get}
use Rattle.sw_graph.specs.declared.function.Function.{Function}
use Rattle.sw_graph.specs.declared.graph.Graph.{Graph}
use Rattle.sw_partition.specs.Laws.{within_trans}
use Rattle.sw_partition.specs.Regions.{Regions, IsWithin}
use Rattle.sw_region_flow.proofs.Deciding.{Decided, first_below, not_decided}
use Rattle.sw_region_flow.proofs.Leasts.{some_least}
use Rattle.sw_region_flow.proofs.OneSites.{sites_are_one}
use Rattle.sw_region_flow.specs.Laws.{entries_within}
use Rattle.sw_region_ops.proofs.ContextLemmas.{inside}
use Rattle.sw_region_ops.specs.Entry.{IsEntry, IsEntryOf}
use Rattle.sw_region_ops.specs.Setting.{setting_of}
use Rattle.sw_region_ops.specs.Sites.{AreSites}
use Rattle.sw_solve.proofs.Spreading.{below_down}
use Rattle.sw_solve.specs.Annotation.{value_at, IsBelow}
use Rattle.sw_cert.proofs.Decisions.{of_option}
use Rattle.sw_cert.proofs.RegionsDecided.{tell_below}
use Rattle.sw_cert.specs.Reading.{states_of}
use Rattle.sw_cert.specs.Verified.{Annotations, IsEntered, EntersAt, IsFirstNotEntered}

-- each function has a state at its entry
pub some_entry : (graph : Graph) (body : Function) → (entry : Regions) × IsEntryOf graph body entry
some_entry graph body =
    let least = some_least (setting_of graph body) (inside graph.shapes body.regs) in
    let enters = least.1.closed.enters_by in
    let sites = sym enters.sites_are in (
      least.1.closed.entry,
      record {
        sites = subst (AreSites (setting_of graph body)) sites least.1.are_sites;
        entry = subst (λ ss. IsEntry (setting_of graph body) ss least.1.closed.entry) sites enters;
      },
    )

-- and one, up to copies
pub one_entry_within : (graph : Graph) (body : Function) (a b : Regions) → IsEntryOf graph body a
    → IsEntryOf graph body b → IsWithin a b
one_entry_within graph body a b first second =
    let same = sites_are_one (setting_of graph body) a.sites b.sites first.sites second.sites in
    entries_within (setting_of graph body) b.sites a b
    (subst (λ sites. IsEntry (setting_of graph body) sites a) same first.entry) second.entry

pub tell_enters : (graph : Graph) (annotations : Annotations) (function : ℕ)
    → Decided (EntersAt graph annotations function)
tell_enters graph annotations function =
    of_option (λ body. IsEntered graph body (states_of annotations function))
    (slice_get graph.functions function) (λ body is. at body
    (tell_below (some_entry graph body).0 (value_at (states_of annotations function) 0)))
  where
    at : (body : Function)
        → Decided (IsBelow IsWithin (some_entry graph body).0
        (value_at (states_of annotations function) 0))
        → Decided (IsEntered graph body (states_of annotations function))
    at body (inl below) = inl (record {
      entry = (some_entry graph body).0;
      is_entry = (some_entry graph body).1;
      within = below;
    })
    at body (inr apart) = inr (λ entered. apart (below_down IsWithin within_trans
        (some_entry graph body).0 entered.entry (value_at (states_of annotations function) 0)
        (one_entry_within graph body (some_entry graph body).0 entered.entry
        (some_entry graph body).1 entered.is_entry) entered.within))

-- each function is entered, or there is a least one that isn't
pub all_enter : (graph : Graph) (annotations : Annotations)
    → ((function : ℕ) → EntersAt graph annotations function)
    ⊎ ((function : ℕ) × IsFirstNotEntered graph annotations function)
all_enter graph annotations = elim (first_below (length graph.functions)
    (λ n. EntersAt graph annotations n → ⊥) (λ n. not_decided (tell_enters graph annotations n))) [
      | inl h ↦ inr (
        h.0,
        record {
          not_entered = h.2;
          least = λ other below. elim (tell_enters graph annotations other) [
            | inl enters ↦ enters
            | inr non ↦ absurd (h.3 other below non)
          ];
        },
      )
      | inr none ↦ inl (λ function body is. elim (tell_enters graph annotations function) [
        | inl enters ↦ enters body is
        | inr non ↦ absurd (none function (slice_get_within graph.functions function body is) non)
      ])
    ]
