-- What is so where notes are among those of a program in which nothing is refused.
use Rattle.std.proofs.Common.{◌≡◌, ℕ, Bool, true, false, not, ◌&&◌, List, [], ◌∷◌, ◌++◌}
use Rattle.std.proofs.Common.{Some, None, refl, ap, sym, ◌∙◌, subst}
use Rattle.std.proofs.lemmas.Bool.{false≢true}
use Rattle.std.proofs.lemmas.List.Elements.{Contains-append_left, Contains-append_right}
use Rattle.std.specs.Prelude.{Contains, if◌then◌else◌}
use Rattle.sw_list.proofs.Members.{in_flat_map, none_in}
use Rattle.sw_types.specs.declared.isolation.CallKind.{CallKind}
use Rattle.sw_graph.specs.declared.function.RegKind.{RegKind}
use Rattle.sw_typing_rules.proofs.Steps.{not_false}
use Rattle.sw_isolation_rules.specs.Kinds.{accessor, is_outside, is_strong, kind_of, needs_await}
use Rattle.sw_isolation_rules.specs.Lists.{race_in}
use Rattle.sw_isolation_rules.specs.Noting.{await_notes, call_notes, placed, race_if, read_notes}
use Rattle.sw_isolation_rules.specs.Noting.{refused_if, write_notes}
use Rattle.sw_isolation_rules.specs.declared.note.Kinded.{Kinded}
use Rattle.sw_isolation_rules.specs.declared.note.Note.{Note}
use Rattle.sw_isolation_rules.specs.declared.note.Note.TheVariants.{Kind, Race, Refused}
use Rattle.sw_isolation_rules.specs.declared.uses.Callee.{Callee}
use Rattle.sw_isolation_rules.specs.declared.uses.Context.{Context}
use Rattle.sw_isolation_rules.specs.declared.uses.Storage.{Storage}
use Rattle.sw_typing_facts.proofs.Lists.Listed.{in_first}
use Rattle.sw_lower_total_facts.proofs.Expressions.Kinds.{read_kind}
use Rattle.sw_lower_placed_facts.specs.Allowed.{ReadOk, SharesNone, WriteOk, is_away}
use Rattle.sw_lower_placed_facts.specs.Claims.{AreNoted}
use Rattle.sw_lower_placed_facts.specs.Settled.{IsSettled}
use Rattle.sw_lower_placed_facts.specs.Hosts.{IsSeenFrom, Program, Host}

-- a read of storage that has no kind: it is no `var` of another isolation
constant_by : (outside mutable : Bool) (kind : CallKind)
    → (if outside then (if mutable then Some kind else None) else None) ≡ None
    → outside ≡ true → mutable ≡ false
constant_by true true kind none is = absurd (no none) where
  no : Some kind ≡ None → ⊥
  no same = cc
constant_by true false kind none is = refl
constant_by false mutable kind none is = absurd (false≢true is)

-- A read of storage has a kind.
pub record IsCrossing (context : Context) (storage : Storage) (kind : CallKind) : Type 0 where
  pub outside : is_outside context storage ≡ true
  pub mutable : storage.mutable ≡ true
  pub kind_is : kind ≡ kind_of (accessor storage) context.iso

pub crossing : (context : Context) (storage : Storage) (kind : CallKind)
    → read_kind context storage ≡ Some kind → IsCrossing context storage kind
crossing context storage kind is = by (is_outside context storage) storage.mutable refl refl is
  where
    by : (outside mutable : Bool) → is_outside context storage ≡ outside
        → storage.mutable ≡ mutable
        → (if outside then (if mutable then Some (kind_of (accessor storage) context.iso)
        else None) else None) ≡ Some kind → IsCrossing context storage kind
    by true true away var is = record { outside = away; mutable = var; kind_is = same is } where
      same : Some (kind_of (accessor storage) context.iso) ≡ Some kind
          → kind ≡ kind_of (accessor storage) context.iso
      same found = cc
    by true false away var is = cc
    by false mutable away var is = cc

module _ (program : Program) where
  -- the notes of the first and of the second part
  pub noted_left : (one other : List Note) → AreNoted program (one ++ other)
      → AreNoted program one
  noted_left one other noted note has = noted note (Contains-append_left one other note has)

  pub noted_right : (one other : List Note) → AreNoted program (one ++ other)
      → AreNoted program other
  noted_right one other noted note has = noted note (Contains-append_right one other note has)

  -- A value that may not cross is a race.
  pub race_none : SharesNone program → (fails : Bool) (at code : ℕ)
      → AreNoted program (race_if fails at code) → fails ≡ false
  race_none shares false at code noted = refl
  race_none shares true at code noted =
      absurd (none_in (placed at code)
      (subst (λ all. Contains all (placed at code)) shares.races
      (in_flat_map race_in program.notes (Race (placed at code)) (placed at code)
      (noted (Race (placed at code)) (in_first (Race (placed at code)) []) refl)
      (in_first (placed at code) []))))

  -- What a call gives may cross, where it leaves the isolation.
  pub call_crosses : SharesNone program → (context : Context) (at : ℕ) (callee : Callee)
      (sends : Bool) → AreNoted program (call_notes context at callee sends)
      → is_strong (kind_of callee context.iso) ≡ true → sends ≡ true
  call_crosses shares context at callee sends noted strong =
      not_false sends (sym (ap (λ is. is && not sends) strong)
      ∙ race_none shares (is_strong kind && not sends) at 604
      (noted_right awaits (race_if (is_strong kind && not sends) at 604)
      (noted_right (Kind called ∷ []) (awaits ++ race_if (is_strong kind && not sends) at 604)
      noted))) where
        kind : CallKind
        kind = kind_of callee context.iso

        called : Kinded
        called = record { at = at; kind = kind }

        awaits : List Note
        awaits =
            if needs_await kind callee.is_async then await_notes context at callee.is_async else []

  -- A `let` of another isolation may cross, where it is read.
  reads_cross : SharesNone program → (outside mutable sends : Bool) (calls : List Note) (at : ℕ)
      → AreNoted program
      (if outside then (if mutable then calls else race_if (not sends) at 606) else [])
      → outside ≡ true → mutable ≡ false → sends ≡ true
  reads_cross shares true true sends calls at noted away constant =
      absurd (false≢true (sym constant))
  reads_cross shares true false sends calls at noted away constant =
      not_false sends (race_none shares (not sends) at 606 noted)
  reads_cross shares false mutable sends calls at noted away constant = absurd (false≢true away)

  -- the value that a getter gives
  pub getter_crosses : SharesNone program → (context : Context) (at : ℕ) (storage : Storage)
      (kind : CallKind) → IsCrossing context storage kind
      → AreNoted program (read_notes context at storage) → is_strong kind ≡ true
      → storage.may_cross ≡ true
  getter_crosses shares context at storage kind cross noted strong =
      call_crosses shares context at (accessor storage) storage.may_cross
      (by (is_outside context storage) storage.mutable cross.outside cross.mutable noted)
      (sym (ap is_strong cross.kind_is) ∙ strong) where
        calls : List Note
        calls = call_notes context at (accessor storage) storage.may_cross

        by : (outside mutable : Bool) → outside ≡ true → mutable ≡ true → AreNoted program
            (if outside then (if mutable then calls else race_if (not storage.may_cross) at 606)
            else []) → AreNoted program calls
        by true true away var noted = noted
        by true false away var noted = absurd (false≢true var)
        by false mutable away var noted = absurd (false≢true away)

  module _ (host : Host) (regs : List RegKind) where
    -- storage that is read where it is stored
    pub read_ok : (context : Context) (at : ℕ) (storage : Storage) → IsSeenFrom host context
        → AreNoted program (read_notes context at storage) → read_kind context storage ≡ None
        → ReadOk program host regs storage
    read_ok context at storage seen noted none = record {
      constant = constant;
      crosses = λ shares away.
          reads_cross shares (is_outside context storage) storage.mutable storage.may_cross
          (call_notes context at (accessor storage) storage.may_cross) at noted (outside away)
          (constant away);
    } where
      outside : is_away host.iso storage ≡ true → is_outside context storage ≡ true
      outside away = ap (λ iso. is_away iso storage) seen.iso ∙ away

      constant : is_away host.iso storage ≡ true → storage.mutable ≡ false
      constant away =
          constant_by (is_outside context storage) storage.mutable
          (kind_of (accessor storage) context.iso) none (outside away)

    module _ (settled : IsSettled program) where
      -- Nothing that is noted is refused.
      pub refused_none : (fails : Bool) (at code : ℕ)
          → AreNoted program (refused_if fails at code) → fails ≡ false
      refused_none false at code noted = refl
      refused_none true at code noted =
          absurd (settled.none_refused (placed at code)
          (noted (Refused (placed at code)) (in_first (Refused (placed at code)) []) refl))

      -- storage that is written
      pub write_ok : (context : Context) (at : ℕ) (storage : Storage) → IsSeenFrom host context
          → AreNoted program (write_notes context at storage) → storage.mutable ≡ true
          → WriteOk program host regs storage
      write_ok context at storage seen noted mutable = record {
        inside = sym (ap (λ iso. is_away iso storage) seen.iso)
            ∙ refused_none (is_outside context storage) at 504 noted;
        variable = mutable;
      }
