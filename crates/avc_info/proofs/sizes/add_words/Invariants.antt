use Rattle.std.proofs.Common.{◌≡◌, ◌++◌, take, string_bytes}
use Rattle.std.specs.List.{flat_map}
use Rattle.avc_info.specs.Sizes.{size_word}
use Rattle.avc_info.proofs.sizes.add_words.Given as goal

abbrev pub invariant-loop-size : goal.invariant-loop-size
invariant-loop-size l = record { told : string_bytes l.text ≡ string_bytes l.initial.text ++ flat_map size_word (take l.size-index l.sizes) }
