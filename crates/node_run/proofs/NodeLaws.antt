-- What the run of a node says of its status: that it is the one that is due, and that no fault comes without its cause.
use Rattle.std.proofs.Common.{◌≡◌, ℕ, ◌<◌, ◌≤◌, List, length, Option, Some, None, Result, Ok, Err, ◌⊎◌, inl, inr, ⊎_elim, refl, sym, ap, ◌∙◌, subst, arith}
use Rattle.std.specs.Prelude.{IsOk}
use Rattle.io_edge.specs.Causes.{Rose}
use Rattle.io_edge.specs.Files.{IsReading, with_reading}
use Rattle.io_edge.specs.declared.reading.Reading.{Reading}
use Rattle.io_edge.specs.declared.shelf_refusal.ShelfRefusal.{ShelfRefusal}
use Rattle.io_edge.specs.declared.shelf_refusal.ShelfRefusal.TheVariants as refusal
use Rattle.node_settings.specs.declared.config.Config.{Config}
use Rattle.node_settings.specs.declared.topology.Topology.{Topology}
use Rattle.trace_meaning.specs.FaultCounts.{HasWriteCount}
use Rattle.world_play.specs.Drive.{HasWorldCount, IsDriven}
use Rattle.trace_meaning.specs.declared.outcome.Outcome.{Outcome}
use Rattle.trace_meaning.specs.declared.outcome.Outcome.TheVariants as outcomes
use Rattle.node_run.specs.Asked.{Asked}
use Rattle.node_run.specs.Files.{file_limit, config_judged, topology_judged, IsVerdict, IsJudged, IsFileRead, ShelfTold, IsConfRead, IsTopoRead, AreJudged, IsAcceptedFile, IsRefusedFile, IsDue, HasFailed}
use Rattle.node_run.specs.Node.{WorldTold, NodeTold, first_events, IsDriving, IsShut, IsOpenRefused, IsServing, ComesTo, IsNodeRun, RoseOut, RoseWorld, HasFailedFile, IsDueOf, IsNodeAnswered, HasNodeCause}
use Rattle.tool_status.specs.Streams.{SinkTold}
use Rattle.tool_status.specs.Told.{status_told}
use Rattle.tool_status.specs.declared.status.Status.{Status}
use Rattle.tool_status.specs.declared.status.Status.TheVariants as status
use Rattle.tool_status.specs.declared.status.What.{What}
use Rattle.tool_status.specs.declared.status.Which.{Which}
use Rattle.tool_status.specs.declared.status.Which.TheVariants.{Conf, Topo}

-- ---- one file

-- a file whose bytes are told: how its verdict may be
data Ways {T : Type 0} (which : Which) (judge : List ℕ → Result T What) (failed : Type 0) (all : List ℕ) (r : Result T Status) : Type 0 where
  taken : (value : T) → r ≡ Ok value → judge all ≡ Ok value → length all ≤ file_limit → Ways which judge failed all r
  refused : (what : What) → r ≡ Err (status.BadSettings what) → judge all ≡ Err what → length all ≤ file_limit → Ways which judge failed all r
  large : (size : ℕ) → r ≡ Err (status.FileTooLarge which size) → size ≡ length all → file_limit < size → Ways which judge failed all r
  faulty : r ≡ Err (status.FileFault which) → failed → Ways which judge failed all r
  wanting : r ≡ Err status.OutOfMemory → Ways which judge failed all r

-- what is told of a file that is refused or not read
abbrev IsOfFile : Which → Type 0 → Status → Type 0
IsOfFile which failed status.OutOfMemory = Unit {0}
IsOfFile which failed (status.FileFault other) = (other ≡ which) × failed
IsOfFile which failed (status.BadSettings what) = Unit {0}
IsOfFile which failed (status.FileTooLarge other size) = Unit {0}
IsOfFile which failed status.Done = ⊥
IsOfFile which failed (status.Differ line) = ⊥
IsOfFile which failed status.Usage = ⊥
IsOfFile which failed (status.Refused line kind) = ⊥
IsOfFile which failed status.ReadFault = ⊥
IsOfFile which failed status.WriteFault = ⊥
IsOfFile which failed status.WorldFault = ⊥
IsOfFile which failed (status.TooLong line) = ⊥

err_is : {T : Type 0} (s t : Status) → ◌≡◌ {A = Result T Status} (Err s) (Err t) → s ≡ t
err_is s t e = cc

module _ {T : Type 0} (which : Which) (judge : List ℕ → Result T What) (name : List ℕ) (before after : List Reading) where
  abbrev FailedHere : Type 0
  FailedHere = after ≡ with_reading before name file_limit (Err refusal.Failed)

  abbrev Way : List ℕ → Result T Status → Type 0
  Way all r = Ways which judge FailedHere all r

  of_verdict : (all : List ℕ) (r : Result T Status) → IsVerdict (judge all) r → length all ≤ file_limit → Way all r
  of_verdict all (Ok value) v short = taken value refl v short
  of_verdict all (Err (status.BadSettings what)) v short = refused what refl v short
  of_verdict all (Err (status.FileTooLarge other size)) v short = absurd v
  of_verdict all (Err (status.FileFault other)) v short = absurd v
  of_verdict all (Err status.OutOfMemory) v short = wanting refl
  of_verdict all (Err status.Done) v short = absurd v
  of_verdict all (Err (status.Differ line)) v short = absurd v
  of_verdict all (Err status.Usage) v short = absurd v
  of_verdict all (Err (status.Refused line kind)) v short = absurd v
  of_verdict all (Err status.ReadFault) v short = absurd v
  of_verdict all (Err status.WriteFault) v short = absurd v
  of_verdict all (Err status.WorldFault) v short = absurd v
  of_verdict all (Err (status.TooLong line)) v short = absurd v

  ways : (all : List ℕ) (r : Result T Status) → IsFileRead which judge (Some all) name before after r → Way all r
  ways all r h = by h.answer h.made h.read h.judged
    where
      by : (answer : Result (List ℕ) ShelfRefusal) → after ≡ with_reading before name file_limit answer → IsReading (Some all) file_limit answer → IsJudged which judge answer r → Way all r
      by (Ok bytes) made read judged =
          of_verdict all r (subst (λ (bs : List ℕ). IsVerdict (judge bs) r) read.1 judged) (subst (λ (bs : List ℕ). length bs ≤ file_limit) read.1 read.0)
      by (Err refusal.Failed) made read judged = faulty judged made
      by (Err (refusal.TooLarge size)) made read judged = large size judged read.1 read.0
      by (Err refusal.OutOfMemory) made read judged = wanting judged

  -- what was accepted was read
  read_bytes : (told : Option (List ℕ)) (value : T) → IsFileRead which judge told name before after (Ok value) →
      (bytes : List ℕ) × (after ≡ with_reading before name file_limit (Ok bytes))
  read_bytes told value h = by h.answer h.made h.judged
    where
      by : (answer : Result (List ℕ) ShelfRefusal) → after ≡ with_reading before name file_limit answer → IsJudged {T = T} which judge answer (Ok value) →
          (bytes : List ℕ) × (after ≡ with_reading before name file_limit (Ok bytes))
      by (Ok bytes) made judged = (bytes, made)
      by (Err why) made judged = absurd cc

  -- what is told where it was not
  file_status : (told : Option (List ℕ)) (s : Status) → IsFileRead {T = T} which judge told name before after (Err s) → IsOfFile which FailedHere s
  file_status told s h = by h.answer h.made h.judged
    where
      of_file : (x : Status) → s ≡ x → IsOfFile which FailedHere x → IsOfFile which FailedHere s
      of_file x is h = subst (λ (y : Status). IsOfFile which FailedHere y) (sym is) h

      verdict : (judged : Result T What) (x : Status) → IsVerdict judged (Err x) → IsOfFile which FailedHere x
      verdict judged (status.BadSettings what) v = tt
      verdict judged (status.FileTooLarge other size) v = absurd v
      verdict judged (status.FileFault other) v = absurd v
      verdict judged status.OutOfMemory v = tt
      verdict judged status.Done v = absurd v
      verdict judged (status.Differ line) v = absurd v
      verdict judged status.Usage v = absurd v
      verdict judged (status.Refused line kind) v = absurd v
      verdict judged status.ReadFault v = absurd v
      verdict judged status.WriteFault v = absurd v
      verdict judged status.WorldFault v = absurd v
      verdict judged (status.TooLong line) v = absurd v

      by : (answer : Result (List ℕ) ShelfRefusal) → after ≡ with_reading before name file_limit answer → IsJudged {T = T} which judge answer (Err s) → IsOfFile which FailedHere s
      by (Ok bytes) made judged = verdict (judge bytes) s judged
      by (Err refusal.Failed) made judged = of_file (status.FileFault which) (err_is {T = T} s _ judged) (refl, made)
      by (Err (refusal.TooLarge size)) made judged = of_file (status.FileTooLarge which size) (err_is {T = T} s _ judged) tt
      by (Err refusal.OutOfMemory) made judged = of_file status.OutOfMemory (err_is {T = T} s _ judged) tt

  -- an accepted file has no verdict that refuses it
  not_refused : (all : List ℕ) (what : What) → judge all ≡ Err what → IsOk (judge all) → ⊥
  not_refused all what is ok = let none : IsOk {T = T} {E = What} (Err what) = subst (λ (r : Result T What). IsOk r) is ok in absurd cc

  abbrev Judged : Option (List ℕ) → Result T Status → Type 0
  Judged told r = IsFileRead which judge told name before after r

  abbrev InPlace : Result T Status → Type 0
  InPlace r = (r ≡ Err status.OutOfMemory) ⊎ ((r ≡ Err (status.FileFault which)) × FailedHere)

  accepted : (told : Option (List ℕ)) (r : Result T Status) → IsAcceptedFile judge told → Judged told r → IsOk r ⊎ InPlace r
  accepted None r h j = absurd h
  accepted (Some all) r h j = by (ways all r j)
    where
      by : Way all r → IsOk r ⊎ InPlace r
      by (taken value is ok short) = inl (subst (λ (x : Result T Status). IsOk x) (sym is) refl)
      by (refused what is bad short) = absurd (not_refused all what bad h.1)
      by (large size is same far) = let short = h.0 in absurd (omega (arith, short, same, far))
      by (faulty is failed) = inr (inr (is, failed))
      by (wanting is) = inr (inl is)

  refused_as : (told : Option (List ℕ)) (due : Status) (r : Result T Status) → IsRefusedFile which judge told due → Judged told r → (r ≡ Err due) ⊎ InPlace r
  refused_as None due r h j = absurd h
  refused_as (Some all) (status.BadSettings due) r h j = by (ways all r j)
    where
      by : Way all r → (r ≡ Err (status.BadSettings due)) ⊎ InPlace r
      by (taken value is ok short) = let two : Ok value ≡ Err due = sym ok ∙ h.1 in absurd cc
      by (refused what is bad short) =
          let two : ◌≡◌ {A = Result T What} (Err what) (Err due) = sym bad ∙ h.1 in
          let same : what ≡ due = cc in
          inl (is ∙ ap (λ (w : What). Err (status.BadSettings w)) same)
      by (large size is same far) = let short = h.0 in absurd (omega (arith, short, same, far))
      by (faulty is failed) = inr (inr (is, failed))
      by (wanting is) = inr (inl is)
  refused_as (Some all) (status.FileTooLarge other due) r h j = by (ways all r j)
    where
      by : Way all r → (r ≡ Err (status.FileTooLarge other due)) ⊎ InPlace r
      by (taken value is ok short) = let far = h.1 in absurd (omega (arith, short, far))
      by (refused what is bad short) = let far = h.1 in absurd (omega (arith, short, far))
      by (large size is same far) =
          inl (is ∙ ap (λ (w : Which). Err (status.FileTooLarge w size)) (sym h.0) ∙ ap (λ (n : ℕ). Err (status.FileTooLarge other n)) (same ∙ sym h.2))
      by (faulty is failed) = inr (inr (is, failed))
      by (wanting is) = inr (inl is)
  refused_as (Some all) status.Done r h j = absurd h
  refused_as (Some all) (status.Differ line) r h j = absurd h
  refused_as (Some all) status.Usage r h j = absurd h
  refused_as (Some all) (status.Refused line kind) r h j = absurd h
  refused_as (Some all) status.ReadFault r h j = absurd h
  refused_as (Some all) status.WriteFault r h j = absurd h
  refused_as (Some all) status.OutOfMemory r h j = absurd h
  refused_as (Some all) status.WorldFault r h j = absurd h
  refused_as (Some all) (status.FileFault other) r h j = absurd h
  refused_as (Some all) (status.TooLong line) r h j = absurd h

-- ---- both files

module _ (asked : Asked) (shelf : ShelfTold) (after : List Reading) where
  -- what is due, in one form for each status
  record AreAccepted (due : Status) : Type 0 where
    conf : IsAcceptedFile config_judged (shelf.file asked.conf)
    topo : IsAcceptedFile topology_judged (shelf.file asked.topo)
    done : due ≡ status.Done

  abbrev IsDueHere : Status → Type 0
  IsDueHere due =
      AreAccepted due
      ⊎ (IsRefusedFile Conf config_judged (shelf.file asked.conf) due
      ⊎ (IsAcceptedFile config_judged (shelf.file asked.conf) × IsRefusedFile Topo topology_judged (shelf.file asked.topo) due))

  due_of : (due : Status) → IsDue (shelf.file asked.conf) (shelf.file asked.topo) due → IsDueHere due
  due_of status.Done h = inl (record { conf = h.0; topo = h.1; done = refl })
  due_of (status.Differ line) h = inr h
  due_of status.Usage h = inr h
  due_of (status.Refused line kind) h = inr h
  due_of status.ReadFault h = inr h
  due_of status.WriteFault h = inr h
  due_of status.OutOfMemory h = inr h
  due_of status.WorldFault h = inr h
  due_of (status.FileFault which) h = inr h
  due_of (status.TooLong line) h = inr h
  due_of (status.BadSettings what) h = inr h
  due_of (status.FileTooLarge which size) h = inr h

  -- the status of a file that is answered in the place of what is due, or what is due
  abbrev IsAnswer : Status → Status → Type 0
  IsAnswer due s = (s ≡ due) ⊎ ((s ≡ status.OutOfMemory) ⊎ ((which : Which) × (s ≡ status.FileFault which) × HasFailed asked shelf.readings after which))

  conf_answer : (due s : Status) → InPlace {T = Config} Conf config_judged asked.conf shelf.readings after (Err s) → IsAnswer due s
  conf_answer due s (inl want) = inr (inl (err_is s status.OutOfMemory want))
  conf_answer due s (inr fault) = inr (inr (Conf, err_is s (status.FileFault Conf) fault.0, fault.1))

  -- a reading of the topology that failed, behind that of the settings
  topo_failed : (config : Config) (between : List Reading) → IsConfRead asked shelf shelf.readings between (Ok config) →
      FailedHere {T = Topology} Topo topology_judged asked.topo between after → HasFailed asked shelf.readings after Topo
  topo_failed config between conf failed =
      let read = read_bytes Conf config_judged asked.conf shelf.readings between (shelf.file asked.conf) config conf in
      (read.0, failed ∙ ap (λ (readings : List Reading). with_reading readings asked.topo file_limit (Err refusal.Failed)) read.1)

  topo_answer : (due s : Status) (config : Config) (between : List Reading) → IsConfRead asked shelf shelf.readings between (Ok config) →
      InPlace {T = Topology} Topo topology_judged asked.topo between after (Err s) → IsAnswer due s
  topo_answer due s config between conf (inl want) = inr (inl (err_is s status.OutOfMemory want))
  topo_answer due s config between conf (inr fault) = inr (inr (Topo, err_is s (status.FileFault Topo) fault.0, topo_failed config between conf fault.1))

  abbrev conf_told : Option (List ℕ)
  conf_told = shelf.file asked.conf

  abbrev topo_told : Option (List ℕ)
  topo_told = shelf.file asked.topo

  -- settings that are accepted are not refused
  no_conf : (due : Status) (config : Config) (between : List Reading) → IsRefusedFile Conf config_judged conf_told due → IsConfRead asked shelf shelf.readings between (Ok config) → ⊥
  no_conf due config between bad conf =
      ⊎_elim (λ is. cc) (λ wants. ⊎_elim (λ is. cc) (λ is. let none = is.0 in cc) wants)
      (refused_as Conf config_judged asked.conf shelf.readings between conf_told due (Ok config) bad conf)

  -- a file that is refused or not read answers as is due
  files_answer : (due s : Status) → IsDueHere due → AreJudged asked shelf after (Err s) → IsAnswer due s
  files_answer due s (inl all) (inl conf) =
      ⊎_elim (λ ok. absurd cc) (conf_answer due s) (accepted Conf config_judged asked.conf shelf.readings after conf_told (Err s) all.conf conf)
  files_answer due s (inl all) (inr topo) =
      ⊎_elim (λ ok. absurd cc) (topo_answer due s topo.0 topo.1 topo.2) (accepted Topo topology_judged asked.topo topo.1 after topo_told (Err s) all.topo topo.3)
  files_answer due s (inr (inl bad)) (inl conf) =
      ⊎_elim (λ is. inl (err_is s due is)) (conf_answer due s) (refused_as Conf config_judged asked.conf shelf.readings after conf_told due (Err s) bad conf)
  files_answer due s (inr (inl bad)) (inr topo) = absurd (no_conf due topo.0 topo.1 bad topo.2)
  files_answer due s (inr (inr bad)) (inl conf) =
      ⊎_elim (λ ok. absurd cc) (conf_answer due s) (accepted Conf config_judged asked.conf shelf.readings after conf_told (Err s) bad.0 conf)
  files_answer due s (inr (inr bad)) (inr topo) =
      ⊎_elim (λ is. inl (err_is s due is)) (topo_answer due s topo.0 topo.1 topo.2) (refused_as Topo topology_judged asked.topo topo.1 after topo_told due (Err s) bad.1 topo.3)

  -- where both were accepted, nothing else is due than Done
  done_due : (due : Status) (both : Config × Topology) → IsDueHere due → AreJudged asked shelf after (Ok both) → due ≡ status.Done
  done_due due both (inl all) judged = all.done
  done_due due both (inr (inl bad)) judged = absurd (no_conf due both.0 judged.0 bad judged.1)
  done_due due both (inr (inr bad)) judged =
      ⊎_elim (λ is. absurd cc) (λ wants. absurd (⊎_elim (λ is. cc) (λ is. let none = is.0 in cc) wants))
      (refused_as Topo topology_judged asked.topo judged.0 after topo_told due (Ok both.1) bad.1 judged.2)

-- ---- the status of what was served

-- how a node ends that is served
abbrev IsServedAs : Type 0 → Type 0 → Status → Type 0
IsServedAs writes worlds s =
    (s ≡ status.Done) ⊎ ((s ≡ status.OutOfMemory) ⊎ (((s ≡ status.WriteFault) × writes) ⊎ ((s ≡ status.WorldFault) × worlds)))

driven_as : (config : Config) (topology : Topology) (count : ℕ) (before after : WorldTold) (out0 out1 : SinkTold) (s : Status) → IsDriving config topology count before after out0 out1 s →
    IsServedAs (Rose out0.faults out1.faults) (Rose before.faults after.faults) s
driven_as config topology count before after out0 out1 s d =
    subst (λ (x : Status). IsServedAs (Rose out0.faults out1.faults) (Rose before.faults after.faults) x) (sym d.told) (by d.outcome d.writes d.worlds d.drives.is_driven)
  where
    by : (o : Outcome) → HasWriteCount out0.faults out1.faults o → HasWorldCount before.faults after.faults o →
        IsDriven o config.settings (first_events config topology) count after.has_ended d.drives.events d.drives.written d.drives.acts →
        IsServedAs (Rose out0.faults out1.faults) (Rose before.faults after.faults) (status_told o)
    by outcomes.Done w c h = inl refl
    by (outcomes.Differ line) w c h = absurd h
    by (outcomes.Refused line kind) w c h = absurd h
    by outcomes.ReadFault w c h = absurd h
    by outcomes.WriteFault w c h = inr (inr (inl (refl, w.1)))
    by outcomes.OutOfMemory w c h = inr (inl refl)
    by outcomes.WorldFault w c h = inr (inr (inr (refl, c.1)))
    by (outcomes.TooLong line) w c h = absurd h

shut_as : (before after : WorldTold) (out0 out1 : SinkTold) (s : Status) → IsShut before after out0 out1 s →
    IsServedAs (Rose out0.faults out1.faults) (Rose before.faults after.faults) s
shut_as before after out0 out1 s d = by s d.refused
  where
    by : (x : Status) → IsOpenRefused before.faults after.faults x → IsServedAs (Rose out0.faults out1.faults) (Rose before.faults after.faults) x
    by status.Done h = absurd h
    by (status.Differ line) h = absurd h
    by status.Usage h = absurd h
    by (status.Refused line kind) h = absurd h
    by status.ReadFault h = absurd h
    by status.WriteFault h = absurd h
    by status.OutOfMemory h = inr (inl refl)
    by status.WorldFault h = inr (inr (inr (refl, h.1)))
    by (status.FileFault which) h = absurd h
    by (status.TooLong line) h = absurd h
    by (status.BadSettings what) h = absurd h
    by (status.FileTooLarge which size) h = absurd h

served_as : (config : Config) (topology : Topology) (count : ℕ) (before after : WorldTold) (out0 out1 : SinkTold) (s : Status) → IsServing config topology count before after out0 out1 s →
    IsServedAs (Rose out0.faults out1.faults) (Rose before.faults after.faults) s
served_as config topology count before after out0 out1 s (inl driving) = driven_as config topology count _ after out0 out1 s driving
served_as config topology count before after out0 out1 s (inr shut) = shut_as before after out0 out1 s shut

-- ---- the whole

module _ (asked : Asked) (before after : NodeTold) (s : Status) (run : IsNodeRun asked before after s) where
  abbrev Writes : Type 0
  Writes = RoseOut before after

  abbrev Worlds : Type 0
  Worlds = RoseWorld before after

  -- why a file is not accepted, from either file
  abbrev IsOfConf : Status → Type 0
  IsOfConf x = IsOfFile Conf (HasFailedFile asked before after Conf) x

  abbrev IsOfTopo : Status → Type 0
  IsOfTopo x = IsOfFile Topo (HasFailedFile asked before after Topo) x

  pub node_answered : (due : Status) → IsDueOf asked before due → IsNodeAnswered asked before after due s
  node_answered due d = by run.files run.judged run.comes
    where
      of_files : IsAnswer asked before.shelf after.shelf.readings due s → IsNodeAnswered asked before after due s
      of_files (inl is) = inl is
      of_files (inr (inl is)) = inr (inl is)
      of_files (inr (inr fault)) = inr (inr (inl fault))

      of_world : due ≡ status.Done → IsServedAs Writes Worlds s → IsNodeAnswered asked before after due s
      of_world done (inl is) = inl (is ∙ sym done)
      of_world done (inr (inl is)) = inr (inl is)
      of_world done (inr (inr (inl fault))) = inr (inr (inr (inl fault)))
      of_world done (inr (inr (inr fault))) = inr (inr (inr (inr fault)))

      due_here : IsDueHere asked before.shelf after.shelf.readings due
      due_here = due_of asked before.shelf after.shelf.readings due d

      by : (res : Result (Config × Topology) Status) → AreJudged asked before.shelf after.shelf.readings res → ComesTo res asked.count before after s → IsNodeAnswered asked before after due s
      by (Ok both) judged comes =
          of_world (done_due asked before.shelf after.shelf.readings due both due_here judged) (served_as both.0 both.1 asked.count before.world after.world before.out after.out s comes.0)
      by (Err refusal) judged comes =
          of_files (subst (λ (x : Status). IsAnswer asked before.shelf after.shelf.readings due x) (sym comes.0) (files_answer asked before.shelf after.shelf.readings due refusal due_here judged))

  pub node_complete : (due : Status) → IsDueOf asked before due → ¬ HasFailedFile asked before after Conf → ¬ HasFailedFile asked before after Topo → ¬ Writes → ¬ Worlds → (s ≡ due) ⊎ (s ≡ status.OutOfMemory)
  node_complete due d conf topo writes worlds = by (node_answered due d)
    where
      no_file : (which : Which) → HasFailedFile asked before after which → ⊥
      no_file Conf failed = conf failed
      no_file Topo failed = topo failed

      by : IsNodeAnswered asked before after due s → (s ≡ due) ⊎ (s ≡ status.OutOfMemory)
      by (inl is) = inl is
      by (inr (inl is)) = inr is
      by (inr (inr (inl fault))) = absurd (no_file fault.0 fault.2)
      by (inr (inr (inr (inl fault)))) = absurd (writes fault.1)
      by (inr (inr (inr (inr fault)))) = absurd (worlds fault.1)

  pub node_cause : HasNodeCause asked before after s
  node_cause = by run.files run.judged run.comes
    where
      served : (x : Status) → IsServedAs Writes Worlds x → HasNodeCause asked before after x
      served x (inl is) = subst (λ (y : Status). HasNodeCause asked before after y) (sym is) tt
      served x (inr (inl is)) = subst (λ (y : Status). HasNodeCause asked before after y) (sym is) tt
      served x (inr (inr (inl fault))) = subst (λ (y : Status). HasNodeCause asked before after y) (sym fault.0) fault.1
      served x (inr (inr (inr fault))) = subst (λ (y : Status). HasNodeCause asked before after y) (sym fault.0) fault.1

      of_conf : (x : Status) → IsConfRead asked before.shelf before.shelf.readings after.shelf.readings (Err x) → IsOfConf x
      of_conf x h = file_status Conf config_judged asked.conf before.shelf.readings after.shelf.readings (before.shelf.file asked.conf) x h

      of_topo : (x : Status) (config : Config) (between : List Reading) → IsConfRead asked before.shelf before.shelf.readings between (Ok config) →
          IsTopoRead asked before.shelf between after.shelf.readings (Err x) → IsOfTopo x
      of_topo x config between conf topo = with_failed x (file_status Topo topology_judged asked.topo between after.shelf.readings (before.shelf.file asked.topo) x topo)
        where
          with_failed : (y : Status) → IsOfFile Topo (FailedHere {T = Topology} Topo topology_judged asked.topo between after.shelf.readings) y → IsOfTopo y
          with_failed status.OutOfMemory h = h
          with_failed (status.FileFault other) h = (h.0, topo_failed asked before.shelf after.shelf.readings config between conf h.1)
          with_failed (status.BadSettings what) h = h
          with_failed (status.FileTooLarge other size) h = h
          with_failed status.Done h = h
          with_failed (status.Differ line) h = h
          with_failed status.Usage h = h
          with_failed (status.Refused line kind) h = h
          with_failed status.ReadFault h = h
          with_failed status.WriteFault h = h
          with_failed status.WorldFault h = h
          with_failed (status.TooLong line) h = h

      of_either : (x : Status) → AreJudged asked before.shelf after.shelf.readings (Err x) → IsOfConf x ⊎ IsOfTopo x
      of_either x (inl conf) = inl (of_conf x conf)
      of_either x (inr topo) = inr (of_topo x topo.0 topo.1 topo.2 topo.3)

      no_other : (x : Status) → (IsOfConf x → ⊥) → (IsOfTopo x → ⊥) → AreJudged asked before.shelf after.shelf.readings (Err x) → HasNodeCause asked before after x
      no_other x conf topo j = absurd (⊎_elim conf topo (of_either x j))

      of_file : (x : Status) → AreJudged asked before.shelf after.shelf.readings (Err x) → HasNodeCause asked before after x
      of_file status.Done j = tt
      of_file (status.Differ line) j = no_other (status.Differ line) (λ h. h) (λ h. h) j
      of_file status.Usage j = no_other status.Usage (λ h. h) (λ h. h) j
      of_file (status.Refused line kind) j = no_other (status.Refused line kind) (λ h. h) (λ h. h) j
      of_file status.ReadFault j = no_other status.ReadFault (λ h. h) (λ h. h) j
      of_file status.WriteFault j = no_other status.WriteFault (λ h. h) (λ h. h) j
      of_file status.OutOfMemory j = tt
      of_file status.WorldFault j = no_other status.WorldFault (λ h. h) (λ h. h) j
      of_file (status.FileFault which) j = ⊎_elim
          (λ h. subst (λ (w : Which). HasFailedFile asked before after w) (sym h.0) h.1)
          (λ h. subst (λ (w : Which). HasFailedFile asked before after w) (sym h.0) h.1) (of_either (status.FileFault which) j)
      of_file (status.TooLong line) j = no_other (status.TooLong line) (λ h. h) (λ h. h) j
      of_file (status.BadSettings what) j = j
      of_file (status.FileTooLarge which size) j = j

      by : (res : Result (Config × Topology) Status) → AreJudged asked before.shelf after.shelf.readings res → ComesTo res asked.count before after s → HasNodeCause asked before after s
      by (Ok both) judged comes = served s (served_as both.0 both.1 asked.count before.world after.world before.out after.out s comes.0)
      by (Err refusal) judged comes = subst (λ (x : Status). HasNodeCause asked before after x) (sym comes.0) (of_file refusal judged)

-- what is said of what the code read of the words is said of what the words ask for
pub run_asked : (P : Asked → Type 0) (found : Option Asked) (mine asked : Asked) → Some mine ≡ found → found ≡ Some asked → P mine → P asked
run_asked P found mine asked is told p = let same : mine ≡ asked = let both : Some mine ≡ Some asked = is ∙ told in cc in subst P same p
