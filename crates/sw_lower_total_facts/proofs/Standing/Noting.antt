-- What is noted of a key: among notes after each other, and where nothing is.
use Rattle.std.proofs.Common.{◌≡◌, ℕ, Bool, true, false, cond, not, ◌&&◌, List, [], ◌∷◌, ◌++◌, map}
use Rattle.std.proofs.Common.{flat_map, append-nil, refl, ap, ◌∙◌}
use Rattle.std.specs.Prelude.{◌==◌}
use Rattle.std.proofs.lemmas.List.Concat.{flat_map-append}
use Rattle.std.proofs.lemmas.List.Elements.{filter-append}
use Rattle.std.specs.List.{filter}
use Rattle.sw_tree.proofs.Counting.{hits}
use Rattle.sw_isolation_rules.specs.Kinds.{accessor, is_outside, is_strong, kind_of, needs_await}
use Rattle.sw_isolation_rules.specs.Lists.{held_in, kind_in, kinds_in, var_in, vars_in}
use Rattle.sw_isolation_rules.specs.Noting.{await_notes, call_notes, race_if, read_notes}
use Rattle.sw_isolation_rules.specs.Noting.{refused_if, store_notes, use_notes}
use Rattle.sw_isolation_rules.specs.declared.note.BodyIso.{BodyIso}
use Rattle.sw_isolation_rules.specs.declared.note.Captured.{Captured as Held}
use Rattle.sw_isolation_rules.specs.declared.note.Kinded.{Kinded}
use Rattle.sw_isolation_rules.specs.declared.note.Mention.{Mention}
use Rattle.sw_isolation_rules.specs.declared.note.Note.{Note}
use Rattle.sw_isolation_rules.specs.declared.note.Note.TheVariants.{Body, Kind, Var, Mentioned}
use Rattle.sw_isolation_rules.specs.declared.uses.Callee.{Callee}
use Rattle.sw_isolation_rules.specs.declared.uses.Context.{Context}
use Rattle.sw_isolation_rules.specs.declared.uses.Storage.{Storage}
use Rattle.sw_isolation_rules.specs.declared.uses.Used.{Used}
use Rattle.sw_isolation_rules.specs.declared.uses.Used.TheVariants.{Called, Stored, Field, Waited}
use Rattle.sw_isolation_rules.specs.declared.uses.Used.TheVariants.{Nothing}
use Rattle.sw_typing_facts.proofs.Lists.Joined.{both_none}
use Rattle.sw_lower_total_facts.specs.Noted.{held_of, kinds_of, vars_of}
use Rattle.sw_tree.proofs.KeyMembers.{unlike}

-- notes after each other
pub kinds_join : (key : ℕ) (one other : List Note)
    → kinds_of key (one ++ other) ≡ kinds_of key one ++ kinds_of key other
kinds_join key one other =
    ap (filter (λ (one : Kinded). one.at == key)) (flat_map-append kind_in one other)
    ∙ filter-append (λ (one : Kinded). one.at == key) (kinds_in one) (kinds_in other)

pub held_join : (key : ℕ) (one other : List Note)
    → held_of key (one ++ other) ≡ held_of key one ++ held_of key other
held_join key one other =
    ap (filter (λ (one : Held). one.closure == key)) (flat_map-append held_in one other)
    ∙ filter-append (λ (one : Held). one.closure == key) (flat_map held_in one)
    (flat_map held_in other)

pub vars_join : (key : ℕ) (one other : List Note)
    → vars_of key (one ++ other) ≡ vars_of key one ++ vars_of key other
vars_join key one other =
    ap (filter (λ one. one == key)) (flat_map-append var_in one other)
    ∙ filter-append (λ one. one == key) (vars_in one) (vars_in other)

-- Nothing is noted of a key.
pub record Lacks (notes : List Note) (key : ℕ) : Type 0 where
  pub kinds : kinds_of key notes ≡ []
  pub held : held_of key notes ≡ []
  pub vars : vars_of key notes ≡ []

pub lacks_nothing : (key : ℕ) → Lacks [] key
lacks_nothing key = record { kinds = refl; held = refl; vars = refl }

pub lacks_join : (one other : List Note) (key : ℕ) → Lacks one key → Lacks other key
    → Lacks (one ++ other) key
lacks_join one other key first second = record {
  kinds = kinds_join key one other ∙ both_none _ _ first.kinds second.kinds;
  held = held_join key one other ∙ both_none _ _ first.held second.held;
  vars = vars_join key one other ∙ both_none _ _ first.vars second.vars;
}

-- The same is noted of a key.
pub record IsAlike (key : ℕ) (one other : List Note) : Type 0 where
  pub kinds : kinds_of key one ≡ kinds_of key other
  pub held : held_of key one ≡ held_of key other
  pub vars : vars_of key one ≡ vars_of key other

pub alike_same : (key : ℕ) (notes : List Note) → IsAlike key notes notes
alike_same key notes = record { kinds = refl; held = refl; vars = refl }

pub alike_then : (key : ℕ) (one other more : List Note) → IsAlike key one other
    → IsAlike key other more → IsAlike key one more
alike_then key one other more first second = record {
  kinds = first.kinds ∙ second.kinds;
  held = first.held ∙ second.held;
  vars = first.vars ∙ second.vars;
}

ends_empty : {X : Type 0} (xs ys : List X) → ys ≡ [] → xs ++ ys ≡ xs
ends_empty xs ys is = ap (λ list. xs ++ list) is ∙ append-nil xs

pub alike_left : (key : ℕ) (one other : List Note) → Lacks other key
    → IsAlike key (one ++ other) one
alike_left key one other none = record {
  kinds = kinds_join key one other ∙ ends_empty _ _ none.kinds;
  held = held_join key one other ∙ ends_empty _ _ none.held;
  vars = vars_join key one other ∙ ends_empty _ _ none.vars;
}

pub alike_right : (key : ℕ) (one other : List Note) → Lacks one key
    → IsAlike key (one ++ other) other
alike_right key one other none = record {
  kinds = kinds_join key one other ∙ ap (λ list. list ++ kinds_of key other) none.kinds;
  held = held_join key one other ∙ ap (λ list. list ++ held_of key other) none.held;
  vars = vars_join key one other ∙ ap (λ list. list ++ vars_of key other) none.vars;
}

-- what is lacked where the same is noted
pub lacks_alike : (key : ℕ) (one other : List Note) → IsAlike key one other → Lacks other key
    → Lacks one key
lacks_alike key one other alike none = record {
  kinds = alike.kinds ∙ none.kinds;
  held = alike.held ∙ none.held;
  vars = alike.vars ∙ none.vars;
}

-- a body's note is of no key here
pub alike_body : (key : ℕ) (body : BodyIso) (notes : List Note)
    → IsAlike key (Body body ∷ notes) notes
alike_body key body notes = record { kinds = refl; held = refl; vars = refl }

-- Notes that are of no key: breaches, and mentions.
pub record AreBare (notes : List Note) : Type 0 where
  pub kinds : kinds_in notes ≡ []
  pub held : flat_map held_in notes ≡ []
  pub vars : vars_in notes ≡ []

pub bare_nothing : AreBare []
bare_nothing = record { kinds = refl; held = refl; vars = refl }

pub bare_join : (one other : List Note) → AreBare one → AreBare other → AreBare (one ++ other)
bare_join one other first second = record {
  kinds = flat_map-append kind_in one other ∙ both_none _ _ first.kinds second.kinds;
  held = flat_map-append held_in one other ∙ both_none _ _ first.held second.held;
  vars = flat_map-append var_in one other ∙ both_none _ _ first.vars second.vars;
}

pub bare_lacks : (notes : List Note) (key : ℕ) → AreBare notes → Lacks notes key
bare_lacks notes key bare = record {
  kinds = ap (filter (λ (one : Kinded). one.at == key)) bare.kinds;
  held = ap (filter (λ (one : Held). one.closure == key)) bare.held;
  vars = ap (filter (λ one. one == key)) bare.vars;
}

bare_either : (is : Bool) (one other : List Note) → AreBare one → AreBare other
    → AreBare (cond is one other)
bare_either true one other first second = first
bare_either false one other first second = second

bare_refused : (fails : Bool) (at code : ℕ) → AreBare (refused_if fails at code)
bare_refused true at code = record { kinds = refl; held = refl; vars = refl }
bare_refused false at code = bare_nothing

pub bare_race : (fails : Bool) (at code : ℕ) → AreBare (race_if fails at code)
bare_race true at code = record { kinds = refl; held = refl; vars = refl }
bare_race false at code = bare_nothing

pub bare_await : (context : Context) (at : ℕ) (is_async : Bool)
    → AreBare (await_notes context at is_async)
bare_await context at is_async =
    bare_either context.is_async _ _ (bare_refused (not context.awaited) at 502)
    (bare_either is_async _ _ (bare_refused true at 503) (bare_refused true at 501))

pub bare_mentions : (mentions : List Mention) → AreBare (map Mentioned mentions)
bare_mentions [] = bare_nothing
bare_mentions (one ∷ mentions) =
    let more = bare_mentions mentions in
    record { kinds = more.kinds; held = more.held; vars = more.vars }

-- what is noted of an assignment
pub bare_store : (context : Context) (at : ℕ) (used : Used) (inside : List Note)
    → AreBare inside → AreBare (store_notes context at used inside)
bare_store context at (Called callee sends) inside are = bare_nothing
bare_store context at (Stored storage) inside are =
    bare_refused (is_outside context storage) at 504
bare_store context at Field inside are = are
bare_store context at Waited inside are = bare_nothing
bare_store context at Nothing inside are = bare_nothing

-- A use is noted of its own key alone.
dropped : {X : Type 0} (is : Bool) (x : X) → is ≡ false → cond is (x ∷ []) [] ≡ []
dropped is x fails = ap (λ test. cond test (x ∷ []) []) fails

lacks_kind : (kinded : Kinded) (notes : List Note) (key : ℕ) → hits kinded.at key ≡ 0
    → AreBare notes → Lacks (Kind kinded ∷ notes) key
lacks_kind kinded notes key other bare = record {
  kinds = ap (λ more. filter (λ (one : Kinded). one.at == key) (kinded ∷ more)) bare.kinds
      ∙ dropped (kinded.at == key) kinded (unlike kinded.at key other);
  held = ap (filter (λ (one : Held). one.closure == key)) bare.held;
  vars = ap (filter (λ one. one == key)) bare.vars;
}

lacks_call : (context : Context) (at : ℕ) (callee : Callee) (sends : Bool) (key : ℕ)
    → hits at key ≡ 0 → Lacks (call_notes context at callee sends) key
lacks_call context at callee sends key other =
    let kind = kind_of callee context.iso in
    lacks_kind (record { at = at; kind = kind }) _ key other
    (bare_join _ _
    (bare_either (needs_await kind callee.is_async) _ _ (bare_await context at callee.is_async)
    bare_nothing)
    (bare_race (is_strong kind && not sends) at 604))

lacks_either : (is : Bool) (one other : List Note) (key : ℕ) → Lacks one key → Lacks other key
    → Lacks (cond is one other) key
lacks_either true one other key first second = first
lacks_either false one other key first second = second

lacks_read : (context : Context) (at : ℕ) (storage : Storage) (key : ℕ) → hits at key ≡ 0
    → Lacks (read_notes context at storage) key
lacks_read context at storage key other =
    lacks_either (is_outside context storage) _ _ key
    (lacks_either storage.mutable _ _ key
    (lacks_call context at (accessor storage) storage.may_cross key other)
    (bare_lacks _ key (bare_race (not storage.may_cross) at 606)))
    (lacks_nothing key)

pub lacks_use : (context : Context) (at : ℕ) (used : Used) (key : ℕ) → hits at key ≡ 0
    → Lacks (use_notes context at used) key
lacks_use context at (Called callee sends) key other =
    lacks_call context at callee sends key other
lacks_use context at (Stored storage) key other = lacks_read context at storage key other
lacks_use context at Field key other = lacks_nothing key
lacks_use context at Waited key other = bare_lacks _ key (bare_await context at true)
lacks_use context at Nothing key other = lacks_nothing key

-- a `var` is noted of its own key
pub lacks_var : (at key : ℕ) → hits at key ≡ 0 → Lacks (Var at ∷ []) key
lacks_var at key other = record {
  kinds = refl;
  held = refl;
  vars = dropped (at == key) at (unlike at key other);
}
