-- Lists of JSON are made value by value.
use Rattle.std.proofs.Common.{◌≡◌, ◌+◌, ◌<◌, ℕ, List, [], ◌∷◌, ◌++◌, length, map, take, get_or, ap, sym, ◌∙◌}
use Rattle.std.proofs.lemmas.List.{map-append, take_more}
use Rattle.serde_json.specs.Data.{Data}
use Rattle.serde_json.specs.View.{view}
use Rattle.serde_json.specs.declared.value.Value.{Value}

-- one value more, of the item that comes next
pub one_value_more : {A : Type 0} (data_of : A → Data) (items : List A) (index : ℕ) (default : A) (old new : List Value) (value : Value) → map view old ≡ map data_of (take index items)
    → index < length items → view value ≡ data_of (get_or items index default) → new ≡ old ++ value ∷ [] → map view new ≡ map data_of (take (index + 1) items)
one_value_more data_of items index default old new value made within seen pushed =
    ap (map view) pushed ∙ map-append view old (value ∷ []) ∙ ap (λ l. l ++ view value ∷ []) made
    ∙ ap (λ d. map data_of (take index items) ++ d ∷ []) seen
    ∙ sym (map-append data_of (take index items) (get_or items index default ∷ []))
    ∙ ap (map data_of) (sym (take_more items index default within))
