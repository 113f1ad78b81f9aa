use Rattle.avc_reflist.proofs.ReferenceLists.{ℕ, ◌<◌, ◌++◌, length, map, take, ap, sym, ◌∙◌, All, filter, is_not_in_list, reference_at, references_at}
use Rattle.avc_reflist.proofs.ReferenceLists.{modification_frames, initial_list, list_of_places, entries-within, places-within}
use Rattle.avc_reflist.proofs.modification.reference_list.Goals as goal

pub returns-clause-within : goal.returns-clause-within
returns-clause-within c =
    let P = λ (place : ℕ). place < length c.args.frames.now in
    let others : All (λ place. place < length c.args.frames.now) c.deref.result.now = rw c.deref.ensures.0 c.initial_list-others.ensures.within in
    rw (c.new.ensures, c.with_initial_list.ensures)
    (entries-within P c.args.count (take c.args.count (c.in_ok-named.named.items ++ filter (is_not_in_list c.in_ok-named.named.items) c.deref.result.now))
    (places-within P c.args.count c.in_ok-named.named.items c.deref.result.now c.in_ok-named.ensures.within others))

pub returns-clause-list : goal.returns-clause-list
returns-clause-list c = λ indices stand.
    let ref = reference_at indices c.args.frames.now in
    let others : All (λ place. place < length c.args.frames.now) c.deref.result.now = rw c.deref.ensures.0 c.initial_list-others.ensures.within in
    rw (c.new.ensures, c.with_initial_list.ensures)
    (list_of_places indices c.args.frames.now c.args.count c.in_ok-named.named.items c.deref.result.now
    (initial_list c.args.current (references_at indices c.args.frames.now))
    (modification_frames c.args.current c.args.current.frame_num c.args.modifications.now (references_at indices c.args.frames.now))
    stand c.in_ok-named.ensures.within others (c.in_ok-named.ensures.named indices stand) (ap (map ref) c.deref.ensures.0 ∙ sym (c.initial_list-others.ensures.list indices stand)))
