-- What is noted of a closure: of its own key what it takes, and of other keys what is noted inside.
use Rattle.std.proofs.Common.{◌≡◌, ℕ, false, cond, not, List, [], ◌∷◌, ◌++◌, map}
use Rattle.std.proofs.Common.{flat_map, refl, ap, ◌∙◌}
use Rattle.std.specs.Prelude.{◌==◌}
use Rattle.std.specs.List.{filter}
use Rattle.sw_tree.proofs.Counting.{hits}
use Rattle.sw_typing_rules.specs.Worlds.{World}
use Rattle.sw_isolation_rules.specs.Captures.{captured, closed, is_among, is_mention, own_mentions}
use Rattle.sw_isolation_rules.specs.Captures.{taken}
use Rattle.sw_isolation_rules.specs.Lists.{held_in, kinds_in, vars_in}
use Rattle.sw_isolation_rules.specs.declared.note.Captured.{Captured as Held}
use Rattle.sw_isolation_rules.specs.declared.note.Kinded.{Kinded}
use Rattle.sw_isolation_rules.specs.declared.note.Mention.{Mention}
use Rattle.sw_isolation_rules.specs.declared.note.Note.{Note}
use Rattle.sw_isolation_rules.specs.declared.note.Note.TheVariants.{Body, Kind, Refused, Race, Var}
use Rattle.sw_isolation_rules.specs.declared.note.Note.TheVariants.{Mentioned, Captures}
use Rattle.sw_isolation_rules.specs.declared.uses.Context.{Context}
use Rattle.sw_lower_total_facts.specs.Noted.{held_of}
use Rattle.sw_tree.proofs.KeyMembers.{unlike}
use Rattle.sw_lower_total_facts.proofs.Standing.Noting.{IsAlike, Lacks, alike_left, alike_then}
use Rattle.sw_lower_total_facts.proofs.Standing.Noting.{bare_lacks, bare_mentions}

-- what stands inside but for the mentions
abbrev pub kept : List Note → List Note
kept notes = filter (λ note. not (is_mention note)) notes

kept_kinds : (notes : List Note) → kinds_in (kept notes) ≡ kinds_in notes
kept_kinds [] = refl
kept_kinds (Body body ∷ notes) = kept_kinds notes
kept_kinds (Kind kinded ∷ notes) = ap (λ more. kinded ∷ more) (kept_kinds notes)
kept_kinds (Refused one ∷ notes) = kept_kinds notes
kept_kinds (Race one ∷ notes) = kept_kinds notes
kept_kinds (Var key ∷ notes) = kept_kinds notes
kept_kinds (Mentioned one ∷ notes) = kept_kinds notes
kept_kinds (Captures held ∷ notes) = kept_kinds notes

kept_held : (notes : List Note) → flat_map held_in (kept notes) ≡ flat_map held_in notes
kept_held [] = refl
kept_held (Body body ∷ notes) = kept_held notes
kept_held (Kind kinded ∷ notes) = kept_held notes
kept_held (Refused one ∷ notes) = kept_held notes
kept_held (Race one ∷ notes) = kept_held notes
kept_held (Var key ∷ notes) = kept_held notes
kept_held (Mentioned one ∷ notes) = kept_held notes
kept_held (Captures held ∷ notes) = ap (λ more. held ∷ more) (kept_held notes)

kept_vars : (notes : List Note) → vars_in (kept notes) ≡ vars_in notes
kept_vars [] = refl
kept_vars (Body body ∷ notes) = kept_vars notes
kept_vars (Kind kinded ∷ notes) = kept_vars notes
kept_vars (Refused one ∷ notes) = kept_vars notes
kept_vars (Race one ∷ notes) = kept_vars notes
kept_vars (Var key ∷ notes) = ap (λ more. key ∷ more) (kept_vars notes)
kept_vars (Mentioned one ∷ notes) = kept_vars notes
kept_vars (Captures held ∷ notes) = kept_vars notes

pub alike_kept : (key : ℕ) (notes : List Note) → IsAlike key (kept notes) notes
alike_kept key notes = record {
  kinds = ap (filter (λ (one : Kinded). one.at == key)) (kept_kinds notes);
  held = ap (filter (λ (one : Held). one.closure == key)) (kept_held notes);
  vars = ap (filter (λ one. one == key)) (kept_vars notes);
}

-- What a closure takes is noted of the closure alone.
no_kinds : (closure : ℕ) (listed : List ℕ) (mentions : List Mention)
    → kinds_in (map (captured closure listed) mentions) ≡ []
no_kinds closure listed [] = refl
no_kinds closure listed (one ∷ mentions) = no_kinds closure listed mentions

no_vars : (closure : ℕ) (listed : List ℕ) (mentions : List Mention)
    → vars_in (map (captured closure listed) mentions) ≡ []
no_vars closure listed [] = refl
no_vars closure listed (one ∷ mentions) = no_vars closure listed mentions

no_held : (closure : ℕ) (listed : List ℕ) (mentions : List Mention) (key : ℕ)
    → (closure == key) ≡ false → held_of key (map (captured closure listed) mentions) ≡ []
no_held closure listed [] key other = refl
no_held closure listed (one ∷ mentions) key other =
    ap (λ is. cond is (record {
      closure = closure;
      mention = one;
      listed = is_among listed one.variable;
    } ∷ held_of key (map (captured closure listed) mentions))
    (held_of key (map (captured closure listed) mentions))) other
    ∙ no_held closure listed mentions key other

pub lacks_captured : (closure : ℕ) (listed : List ℕ) (mentions : List Mention) (key : ℕ)
    → hits closure key ≡ 0 → Lacks (map (captured closure listed) mentions) key
lacks_captured closure listed mentions key other = record {
  kinds = ap (filter (λ (one : Kinded). one.at == key)) (no_kinds closure listed mentions);
  held = no_held closure listed mentions key (unlike closure key other);
  vars = ap (filter (λ one. one == key)) (no_vars closure listed mentions);
}

-- Of other keys than the closure's the same is noted as inside it.
pub alike_closed : (world : World) (context : Context) (closure : ℕ) (listed : List ℕ)
    (inner : List Note) (key : ℕ) → hits closure key ≡ 0
    → IsAlike key (closed world context closure listed inner) inner
alike_closed world context closure listed inner key other =
    let takes = map (captured closure listed) (taken world context closure inner) in
    let mentions = map Mentioned (own_mentions closure inner) in
    alike_then key _ (kept inner ++ takes) inner
    (alike_left key (kept inner ++ takes) mentions
    (bare_lacks mentions key (bare_mentions (own_mentions closure inner))))
    (alike_then key _ (kept inner) inner
    (alike_left key (kept inner) takes
    (lacks_captured closure listed (taken world context closure inner) key other))
    (alike_kept key inner))
