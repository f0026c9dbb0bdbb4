-- What is noted of a call and of a body is found by its key, and nothing is refused where a program
-- breaches no rule of isolation.
use Rattle.std.proofs.Common.{◌≡◌, ℕ, zero, suc, ◌≤◌, Bool, true, false, List, [], ◌∷◌, Some}
use Rattle.std.proofs.Common.{Contains, refl, ap, sym, ◌∙◌, subst, arith, flat_map, ◌++◌}
use Rattle.std.proofs.lemmas.Bool.{eqb-true}
use Rattle.std.proofs.lemmas.List.Elements.{Contains-append_left}
use Rattle.std.specs.Prelude.{◌==◌, if◌then◌else◌}
use Rattle.sw_list.proofs.Members.{in_flat_map, none_in, of_flat_map}
use Rattle.sw_tree.specs.Contents.{AreKeyed}
use Rattle.sw_tree.specs.declared.decl.Decl.{Decl}
use Rattle.sw_tree.proofs.Counting.{hits, hits_same}
use Rattle.sw_decl_words.specs.declared.placed.Placed.{Placed}
use Rattle.sw_decls.specs.declared.signature.AsyncDefault.{AsyncDefault}
use Rattle.sw_typing_rules.specs.Worlds.{IsWorldOf, World}
use Rattle.sw_isolation_rules.specs.Answers.{Answers, IsOnePerKey}
use Rattle.sw_isolation_rules.specs.Lists.{bodies_in, body_in, kind_in, kind_with, kinds_in}
use Rattle.sw_isolation_rules.specs.Lists.{refusals_in, refused_in}
use Rattle.sw_isolation_rules.specs.Programs.{HasKind, global_refusals, noted, refusals}
use Rattle.sw_isolation_rules.specs.declared.note.BodyIso.{BodyIso}
use Rattle.sw_isolation_rules.specs.declared.note.Kinded.{Kinded}
use Rattle.sw_isolation_rules.specs.declared.note.Note.{Note}
use Rattle.sw_isolation_rules.specs.declared.note.Note.TheVariants.{Body, Captures, Kind, Mentioned}
use Rattle.sw_isolation_rules.specs.declared.note.Note.TheVariants.{Race, Refused, Var}
use Rattle.sw_lower_rules.specs.Tables.{body_with}
use Rattle.sw_typing_facts.proofs.Lists.Listed.{in_first, in_rest, only_in}
use Rattle.sw_lower_total_facts.proofs.Closures.Kept.{same_key}
use Rattle.sw_lower_placed_facts.proofs.Settling.Counts.{marks}
use Rattle.sw_lower_placed_facts.proofs.Settling.Once.{one_note}

-- A key that is that of one element alone finds it.
kind_found : (list : List Kinded) (one : Kinded)
    → ((other : Kinded) → Contains list other → other.at ≡ one.at → other ≡ one)
    → Contains list one → kind_with list one.at ≡ Some one.kind
kind_found [] one alone has = absurd (none_in one has)
kind_found (first ∷ list) one alone (zero, below, is) =
    ap (λ (test : Bool). if test then Some first.kind else kind_with list one.at)
    (same_key first.at one.at (ap (λ (k : Kinded). k.at) is))
    ∙ ap (λ (k : Kinded). Some k.kind) is
kind_found (first ∷ list) one alone (suc k, below, is) =
    by (first.at == one.at) refl
    (kind_found list one (λ other has. alone other (in_rest first list other has))
    (k, omega (arith, below), is)) where
      by : (test : Bool) → (first.at == one.at) ≡ test
          → kind_with list one.at ≡ Some one.kind
          → (if test then Some first.kind else kind_with list one.at) ≡ Some one.kind
      by true same later =
          ap (λ (k : Kinded). Some k.kind)
          (alone first (in_first first list) (eqb-true first.at one.at same))
      by false same later = later

body_found : (list : List BodyIso) (one : BodyIso)
    → ((other : BodyIso) → Contains list other → other.key ≡ one.key → other ≡ one)
    → Contains list one → body_with list one.key ≡ Some one
body_found [] one alone has = absurd (none_in one has)
body_found (first ∷ list) one alone (zero, below, is) =
    ap (λ (test : Bool). if test then Some first else body_with list one.key)
    (same_key first.key one.key (ap (λ (b : BodyIso). b.key) is))
    ∙ ap Some is
body_found (first ∷ list) one alone (suc k, below, is) =
    by (first.key == one.key) refl
    (body_found list one (λ other has. alone other (in_rest first list other has))
    (k, omega (arith, below), is)) where
      by : (test : Bool) → (first.key == one.key) ≡ test
          → body_with list one.key ≡ Some one
          → (if test then Some first else body_with list one.key) ≡ Some one
      by true same later =
          ap Some (alone first (in_first first list) (eqb-true first.key one.key same))
      by false same later = later

-- what a note is that tells of a call, or of a body
kind_note : (note : Note) (one : Kinded) → Contains (kind_in note) one → Kind one ≡ note
kind_note (Body body) one has = absurd (none_in one has)
kind_note (Kind kinded) one has = ap Kind (sym (only_in kinded one has))
kind_note (Refused placed) one has = absurd (none_in one has)
kind_note (Race placed) one has = absurd (none_in one has)
kind_note (Var key) one has = absurd (none_in one has)
kind_note (Mentioned other) one has = absurd (none_in one has)
kind_note (Captures held) one has = absurd (none_in one has)

body_note_is : (note : Note) (one : BodyIso) → Contains (body_in note) one → Body one ≡ note
body_note_is (Body body) one has = ap Body (sym (only_in body one has))
body_note_is (Kind kinded) one has = absurd (none_in one has)
body_note_is (Refused placed) one has = absurd (none_in one has)
body_note_is (Race placed) one has = absurd (none_in one has)
body_note_is (Var key) one has = absurd (none_in one has)
body_note_is (Mentioned other) one has = absurd (none_in one has)
body_note_is (Captures held) one has = absurd (none_in one has)

of_kinds : (notes : List Note) (one : Kinded) → Contains (kinds_in notes) one
    → Contains notes (Kind one)
of_kinds notes one has =
    let (note, among, is) = of_flat_map kind_in notes one has in
    subst (Contains notes) (sym (kind_note note one is)) among

of_bodies : (notes : List Note) (one : BodyIso) → Contains (bodies_in notes) one
    → Contains notes (Body one)
of_bodies notes one has =
    let (note, among, is) = of_flat_map body_in notes one has in
    subst (Contains notes) (sym (body_note_is note one is)) among

kind_same : (one other : Kinded) → Kind one ≡ Kind other → one ≡ other
kind_same one other is = cc

body_same : (one other : BodyIso) → Body one ≡ Body other → one ≡ other
body_same one other is = cc

-- A list that is empty with another is.
nothing_left : {X : Type 0} (xs ys : List X) (x : X) → xs ++ ys ≡ [] → Contains xs x → ⊥
nothing_left xs ys x none has =
    none_in x (subst (λ all. Contains all x) none (Contains-append_left xs ys x has))

module _ (decls : List Decl) (rule : AsyncDefault) (world : World) (answers : Answers)
    (keyed : AreKeyed decls) (is : IsWorldOf decls rule world) where
  abbrev all : List Note
  all = noted world answers decls

  own_kind : (one : Kinded) (key : ℕ) → one.at ≡ key → 1 ≤ marks (Kind one) key
  own_kind one key same = omega (arith, hits_same key, ap (λ at. hits at key) same)

  own_body : (one : BodyIso) (key : ℕ) → one.key ≡ key → 1 ≤ marks (Body one) key
  own_body one key same = omega (arith, hits_same key, ap (λ at. hits at key) same)

  -- what is noted of a call
  pub noted_kind : (one : Kinded) → Contains all (Kind one)
      → kind_with (kinds_in all) one.at ≡ Some one.kind
  noted_kind one has =
      kind_found (kinds_in all) one
      (λ other among same. kind_same other one
      (one_note one.at decls rule world is answers keyed (Kind other) (Kind one)
      (of_kinds all other among) has (own_kind other one.at same) (own_kind one one.at refl)))
      (in_flat_map kind_in all (Kind one) one has (in_first one []))

  -- and of a body
  pub noted_body : (one : BodyIso) → Contains all (Body one)
      → body_with (bodies_in all) one.key ≡ Some one
  noted_body one has =
      body_found (bodies_in all) one
      (λ other among same. body_same other one
      (one_note one.key decls rule world is answers keyed (Body other) (Body one)
      (of_bodies all other among) has (own_body other one.key same) (own_body one one.key refl)))
      (in_flat_map body_in all (Body one) one has (in_first one []))

-- A key has one kind.
pub one_kind : (decls : List Decl) (rule : AsyncDefault) (world : World) (answers : Answers)
    → AreKeyed decls → IsWorldOf decls rule world → IsOnePerKey (HasKind world answers decls)
one_kind decls rule world answers keyed is key one other has holds =
    let notes = noted world answers decls in
    let first : Kinded = record { at = key; kind = one } in
    let second : Kinded = record { at = key; kind = other } in
    let found = noted_kind decls rule world answers keyed is first (of_kinds notes first has) in
    let again = noted_kind decls rule world answers keyed is second
    (of_kinds notes second holds) in
    cc

-- Where nothing breaches the rules of isolation, nothing is noted as refused.
pub none_noted : (decls : List Decl) (world : World) (answers : Answers)
    → refusals world answers decls ≡ [] → (placed : Placed)
    → Contains (noted world answers decls) (Refused placed) → ⊥
none_noted decls world answers none placed has =
    nothing_left (refusals_in (noted world answers decls))
    (flat_map (global_refusals world) world.globals) placed none
    (in_flat_map refused_in (noted world answers decls) (Refused placed) placed has
    (in_first placed []))
