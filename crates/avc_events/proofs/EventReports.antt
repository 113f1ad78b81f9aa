-- Reports of events, and what is told of them.
use Rattle.std.proofs.Common.{ap, sym, ◌∙◌, append_assoc, append-nil, arith, subst}
use Rattle.std.proofs.KnownBytes.{Appends-nil}
use Rattle.std.specs.List.{flat_map}
use Rattle.std.specs.Prelude.{◌≡◌, ℕ, suc, ◌+◌, List, [], ◌∷◌, ◌++◌, length, Option, Some, None, Bool, Result, refl}
use Rattle.avc_types.specs.declared.fault.Fault.{Fault}
use Rattle.avc_annexb.specs.Units.{saturated}
use Rattle.avc_decoder.specs.Events.{pictures_in, refusals_in}
use Rattle.avc_decoder.specs.SeenEvents.{Event}
use Rattle.avc_decoder.specs.declared.event.Event.TheVariants.{Picture, Refused}
use Rattle.avc_console.specs.Messages.{end_text}
use Rattle.avc_console.specs.Program.{TellsRun}
use Rattle.avc_console.specs.Reporting.{new_tally, no_report, report_in, reported_by, IsTold, Reported, Tallied, TellsOn}
use Rattle.avc_console.specs.Telling.{Tells}
use Rattle.avc_console.specs.declared.console.Names.{Names}
use Rattle.avc_console.specs.declared.exit.Ending.{Ending}
use Rattle.avc_console.specs.declared.fault.RunFault.{RunFault}
use Rattle.avc_console.specs.declared.report.Report.{Report}
use Rattle.avc_events.specs.EventReports.{report_of, report_with}

pub report_with-append : (r : Report) (a b : List Event) → report_with r (a ++ b) ≡ report_with (report_with r a) b
report_with-append r [] b = refl
report_with-append r (Picture p ∷ a) b = report_with-append (record r { pictures = saturated (r.pictures + 1) }) a b
report_with-append r (Refused unit f ∷ a) b = report_with-append (record r { refused = r.refused ++ (unit, f) ∷ [] }) a b

held_more : (m : ℕ) → saturated (saturated m + 1) ≡ saturated (m + 1)
held_more m = omega arith

reported_is : (m : ℕ) (refused : List (ℕ × Fault)) (events : List Event)
    → report_with (record { pictures = saturated m; refused = refused }) events ≡ record { pictures = saturated (m + length (pictures_in events)); refused = refused ++ refusals_in events }
reported_is m refused [] = rw append-nil (ap (λ k. record { pictures = saturated k; refused = refused }) (omega arith))
reported_is m refused (Picture p ∷ events) =
    let n = length (pictures_in events) in
    let same : m + 1 + n ≡ m + suc n = omega arith in
    ap (λ k. report_with (record { pictures = k; refused = refused }) events) (held_more m)
    ∙ reported_is (m + 1) refused events
    ∙ ap (λ k. record { pictures = saturated k; refused = refused ++ refusals_in events }) same
reported_is m refused (Refused unit f ∷ events) = reported_is m (refused ++ (unit, f) ∷ []) events ∙ rw append_assoc refl

pub told : (es : List Event) → report_with no_report es ≡ report_of es
told es = reported_is 0 [] es ∙ ap (λ n. record { pictures = saturated n; refused = refusals_in es }) (omega arith)

pub report_more : (a b : List Event) → report_with (report_of a) b ≡ report_of (a ++ b)
report_more a b = ap (λ r. report_with r b) (sym (told a)) ∙ sym (report_with-append no_report a b) ∙ told (a ++ b)

-- ---- what is told meanwhile

-- of a run from its start on, by a tally, and then of its end
pub run_told : (names : Names) (explained : Bool) (t0 t1 : Tallied) (run : Result (Unit {0}) RunFault) (b0 b1 b2 : Option (List ℕ)) (ending : Ending) → t0 ≡ new_tally explained
    → TellsOn (reported_by t0) (reported_by t1) b0 b1
    → ((start : Option (List ℕ)) → IsTold start b1 (reported_by t1) → TellsRun names t1.explained (report_in t1) run start b2 ending)
    → TellsRun names explained (report_in t1) run b0 b2 ending
run_told names explained t0 t1 run b0 b1 b2 ending new on tells =
    let going = subst (λ (t : Tallied). TellsOn (reported_by t) (reported_by t1) b0 b1) new on in
    let ends = tells b0 (going.told b0 (Appends-nil b0)) in
    record { status_is = ends.status_is; told = subst (λ line. Tells b0 b2 (flat_map line t1.refusals ++ end_text names run) ending.told) going.line_is ends.told }

-- of nothing
pub stays_told : (r : Reported) (w : Option (List ℕ)) → TellsOn r r w w
stays_told r w = record { line_is = refl; told = λ start so_far. so_far }

-- one after another
pub told_then : (a b c : Reported) (x y z : Option (List ℕ)) → TellsOn a b x y → TellsOn b c y z → TellsOn a c x z
told_then a b c x y z first second = record { line_is = second.line_is ∙ first.line_is; told = λ start so_far. second.told start (first.told start so_far) }

-- ---- none waits

pub is_none : {A : Type 0} (o : Option A) → ((x : A) → o ≡ Some x → ⊥) → o ≡ None
is_none None other = refl
is_none (Some x) other = absurd (other x refl)
