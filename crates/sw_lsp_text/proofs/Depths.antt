-- How deep replies nest.
use Rattle.std.proofs.Common.{◌≡◌, ℕ, ◌≤◌, ◌==◌, Bool, true, false, cond, List, [], ◌∷◌, length, map, codes}
use Rattle.std.proofs.Common.{Option, Some, None, option_map, IfSome, String, Global, arith}
use Rattle.serde_json.specs.Data.{Data, array, depth, items_depth}
use Rattle.serde_json.specs.View.{items_of}
use Rattle.sw_lsp_text.specs.Diagnostics as json
use Rattle.sw_lsp_text.specs.Replies as reply
use Rattle.sw_lsp_text.specs.declared.diagnostic.Action.{Action}
use Rattle.sw_lsp_text.specs.declared.diagnostic.Diagnostic.{Diagnostic}
use Rattle.sw_lsp_text.specs.declared.diagnostic.Edit.{Edit}
use Rattle.sw_lsp_text.specs.declared.diagnostic.Related.{Related}
use Rattle.sw_lsp_text.specs.declared.fault.Fault.{Fault}
use Rattle.sw_lsp_text.specs.declared.place.Range.{Range}

list_depth : {A : Type 0} (f : A → Data) (n : ℕ) → ((x : A) → depth (f x) ≤ n) → (xs : List A)
    → items_depth (items_of (map f xs)) ≤ n
list_depth f n each [] = omega arith
list_depth f n each (x ∷ xs) =
    let first : depth (f x) ≤ n = each x in
    let rest : items_depth (items_of (map f xs)) ≤ n = list_depth f n each xs in
    omega arith

related_depth : (r : Related) → depth (json.related r) ≤ 4
related_depth r = omega arith

listed : (b : Bool) (d : Data) → depth d ≤ 5 → IfSome (cond b None (Some d)) (λ l. depth l ≤ 5)
listed true d h = tt
listed false d h = h

some_related_depth : (rs : List Related) → IfSome (json.some_related rs) (λ l. depth l ≤ 5)
some_related_depth rs =
    let each : items_depth (items_of (map json.related rs)) ≤ 4 = list_depth json.related 4 related_depth rs in
    listed (length rs == 0) (array (items_of (map json.related rs))) (omega arith)

member_depth : (d : Diagnostic) (page : Option (String Global)) (list : Option Data) → IfSome list (λ l. depth l ≤ 5)
    → depth (json.with_member (codes "relatedInformation") list
    (json.with_member (codes "codeDescription") (option_map json.link page) (json.plain d))) ≤ 6
member_depth d None None h = omega arith
member_depth d (Some page) None h = omega arith
member_depth d None (Some list) h = omega arith
member_depth d (Some page) (Some list) h = omega arith

diagnostic_depth : (d : Diagnostic) → depth (json.diagnostic d) ≤ 6
diagnostic_depth d = member_depth d d.page (json.some_related d.related.items) (some_related_depth d.related.items)

diagnostics_depth : (found : List Diagnostic) → depth (reply.diagnostics found) ≤ 7
diagnostics_depth found =
    let each : items_depth (items_of (map json.diagnostic found)) ≤ 6 = list_depth json.diagnostic 6 diagnostic_depth found in
    omega arith

edit_depth : (e : Edit) → depth (json.edit e) ≤ 3
edit_depth e = omega arith

action_depth : (uri : List ℕ) (a : Action) → depth (json.action uri a) ≤ 8
action_depth uri a =
    let mends : depth (json.diagnostic a.mends) ≤ 6 = diagnostic_depth a.mends in
    let edit : depth (json.edit a.edit) ≤ 3 = edit_depth a.edit in
    omega arith

module _ (id : Data) (flat : depth id ≡ 0) where
  pub begun_depth : depth (reply.begun id) ≤ 127
  begun_depth = omega arith

  pub nothing_depth : depth (reply.nothing id) ≤ 127
  nothing_depth = omega arith

  pub refused_depth : (fault : Fault) → depth (reply.refused id fault) ≤ 127
  refused_depth fault = omega arith

  pub reported_depth : (found : List Diagnostic) → depth (reply.reported id found) ≤ 127
  reported_depth found =
      let list : depth (reply.diagnostics found) ≤ 7 = diagnostics_depth found in omega arith

  pub hovered_depth : (text : List ℕ) (at : Range) → depth (reply.hovered id text at) ≤ 127
  hovered_depth text at = omega arith

  pub offered_depth : (uri : List ℕ) (found : List Action) → depth (reply.offered id uri found) ≤ 127
  offered_depth uri found =
      let each : items_depth (items_of (map (json.action uri) found)) ≤ 8 = list_depth (json.action uri) 8 (action_depth uri) found in
      omega arith

pub published_depth : (uri : List ℕ) (found : List Diagnostic) → depth (reply.published uri found) ≤ 127
published_depth uri found =
    let list : depth (reply.diagnostics found) ≤ 7 = diagnostics_depth found in omega arith
