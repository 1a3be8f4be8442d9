-- Laws on lists of commands: if each command runs as promised (`Runs`), so does the list (`RunsAll`), which implies the
-- main theorem (`Headline`). Promised is that the answers are those of `step` up to the first fault, and Closed after
-- it. A disk is clean if each read has returned what was written (docs/PROVED.md, "Premises").
-- `g` is the kind of store, in memory or in files. `old`, `mid` and `new` are the service before a list, after its
-- first command, and after all of it. The first command is `x` and its answer `a`; `cs` and `rs` are the other commands
-- and answers, or all of them where there is no `x`. `c` is the campaign before the list, `text` the world text in the
-- tables, and `faults` how often the disk had failed before the list. Where a law requires that the tables of a service
-- hold its campaign, this need only be so if the service is open and the disk is clean.
use Rattle.std.proofs.Common.{◌≡◌, ◌⊎◌, ◌≤◌, ◌<◌, ◌+◌, ◌++◌, ◌∷◌, [], ℕ, List, map, drop, length, get_or, Option, Some, None, IfSome, refl, sym, ap, ap₂, ◌∙◌, subst, inl, inr, append_assoc, append-nil, arith}
use native.Mathlib.Numerals.{unary_clauses}
use Rattle.std.proofs.lemmas.List.{drop_more, drop_all}
use Rattle.sqlite_trees.specs.declared.store.Store.{Ghosts}
use Rattle.sqlite.specs.Held.{state}
use Rattle.sqlite.specs.State.{State, HasCleanDisk}
use Rattle.atl_world.specs.Worlds.{WorldValue}
use Rattle.atl_campaign.specs.Campaign.{CampaignValue}
use Rattle.atl_keeping.specs.Keeps.{HoldsCampaign, IsLater, Keeps}
use Rattle.atl_keeping.proofs.WorldTextLaws.{world_text_is}
use Rattle.atl_commands.specs.declared.command.Command.{Command}
use Rattle.atl_commands.specs.declared.command.Answer.{Answer}
use Rattle.atl_commands.specs.declared.command.Answer.TheVariants.{Joined, Mailed, MonthDone, Text, Refused, Fault}
use Rattle.atl_commands.specs.declared.command.Fault.{Fault as Failure}
use Rattle.atl_commands.specs.declared.command.Fault.TheVariants.{Memory, Store, Closed}
use Rattle.atl_commands.specs.Causes.{OfCommand, HasCause, IsFault}
use Rattle.atl_commands.specs.Left.{LeavesGood}
use Rattle.atl_commands.specs.Step.{step}
use Rattle.atl_commands.specs.Service.{ServiceValue, text_in}
use Rattle.atl_commands.specs.Runs.{Runs, RunsAt, RunsOpen, Accepts, Closes, RunsAll, Follows, FollowsAt, AreClosed, Headline, Interrupted, HeadlineAt}
use Rattle.atl_sql.proofs.CauseLaws.{more_before}

-- what a fault may leave in the tables (`LeavesGood`) if the disk had failed `many` times before, it may leave also if
-- it had failed `few` times, which is no more
stops_from : (w : WorldValue) (few many : ℕ) (s : State) (text : List ℕ) (before after : CampaignValue) → few ≤ many
    → LeavesGood w many s text before after → LeavesGood w few s text before after
stops_from w few many s text before after h stops = record {
  tables = record {
    still = stops.tables.still;
    shuts = elim stops.tables.shuts [ inl up ↦ inl up | inr more ↦ inr (more_before few many s.faults h more) ];
    crash = stops.tables.crash;
  };
  good = stops.good;
  crash = stops.crash;
}

module _ {S : Type 0} (g : Ghosts S) where
  -- answers that follow from `step` (`Follows`) do so with a world text that is equal on a clean disk, and with a lower
  -- count of earlier disk failures
  follows_as : (t u : List ℕ) (few many : ℕ) (w : WorldValue) (c : CampaignValue) (cs : List Command) (rs : List Answer) (new : ServiceValue S)
      → (HasCleanDisk (state g new.conn) → t ≡ u) → few ≤ many
      → Follows g t many w c cs rs new → Follows g u few w c cs rs new
  follows_as t u few many w c [] [] new same h f =
      (f.0, λ clean. subst (λ x. Keeps (state g new.conn) x c) (same clean) (f.1 clean))
  follows_as t u few many w c [] (a ∷ rs) new same h f = absurd f
  follows_as t u few many w c (x ∷ cs) [] new same h f = absurd f
  follows_as t u few many w c (x ∷ cs) (Joined n m ∷ rs) new same h f =
      (f.0, follows_as t u few many w (step w c x).0 cs rs new same h f.1)
  follows_as t u few many w c (x ∷ cs) (Mailed n fs ∷ rs) new same h f =
      (f.0, follows_as t u few many w (step w c x).0 cs rs new same h f.1)
  follows_as t u few many w c (x ∷ cs) (MonthDone n ∷ rs) new same h f =
      (f.0, follows_as t u few many w (step w c x).0 cs rs new same h f.1)
  follows_as t u few many w c (x ∷ cs) (Text r ∷ rs) new same h f =
      (f.0, follows_as t u few many w (step w c x).0 cs rs new same h f.1)
  follows_as t u few many w c (x ∷ cs) (Refused r ∷ rs) new same h f =
      (f.0, follows_as t u few many w (step w c x).0 cs rs new same h f.1)
  follows_as t u few many w c (x ∷ cs) (Fault e ∷ rs) new same h f = (
    f.0,
    f.1,
    f.2,
    λ clean. subst (λ t. LeavesGood w few (state g new.conn) t c (step w c x).0) (same clean) (stops_from w few many (state g new.conn) t c (step w c x).0 h (f.3 clean)),
    record { old = f.4.old; since = omega (arith, h, f.4.since); held = λ clean. subst (λ t. Keeps (state g f.4.old) t c) (same clean) (f.4.held clean); cause = f.4.cause },
  )

  -- If a command was carried out, its answer is that of `step`, and the later answers follow from the campaign of
  -- `step` (`Follows`). The premise is that these are right from the service after the command on (`FollowsAt`).
  carried_out : (old mid new : ServiceValue S) (c : CampaignValue) (x : Command) (a : Answer) (cs : List Command) (rs : List Answer)
      → (accepts : Accepts g c old x a mid) → (HasCleanDisk (state g new.conn) → HasCleanDisk (state g mid.conn))
      → (state g old.conn).faults ≤ (state g mid.conn).faults → FollowsAt g mid cs rs new mid.campaign
      → ((step old.world c x).1 ≡ a) × Follows g (text_in g old.conn) (state g old.conn).faults old.world (step old.world c x).0 cs rs new × (new.world ≡ old.world)
  carried_out old mid new c x a cs rs accepts was counts rest =
      let after = accepts.after in
      let open_is : mid.campaign ≡ Some after = ap (λ (e : ServiceValue S). e.campaign) accepts.same in
      let world_is : mid.world ≡ old.world = ap (λ (e : ServiceValue S). e.world) accepts.same in
      let on = subst (FollowsAt g mid cs rs new) open_is rest in
      let there = subst (λ w. Follows g (text_in g mid.conn) (state g mid.conn).faults w after cs rs new) world_is on.0 in
      let text_is = λ (clean : HasCleanDisk (state g new.conn)). world_text_is (state g mid.conn) (text_in g old.conn) after (accepts.tables (was clean)) in (
        ap (λ p. p.1) accepts.step,
        subst (λ d. Follows g (text_in g old.conn) (state g old.conn).faults old.world d cs rs new) (sym (ap (λ p. p.0) accepts.step))
            (follows_as (text_in g mid.conn) (text_in g old.conn) (state g old.conn).faults (state g mid.conn).faults old.world after cs rs new text_is counts there),
        on.1 ∙ world_is,
      )

  -- After a command that ended in a fault with its cause, the rest of the list is answered Closed, and the service
  -- stays closed. On a clean disk the tables stay at the campaign before the command, and a crash leaves that or the
  -- one of `step`, which then is good (`LeavesGood`).
  ended_in_fault : (old mid new : ServiceValue S) (c : CampaignValue) (x : Command) (fault : Failure) (cs : List Command) (rs : List Answer)
      → Closes g c old x mid → HasCause g (OfCommand old.world c x) old.conn mid.conn fault
      → HoldsCampaign g old.conn (text_in g old.conn) c
      → (HasCleanDisk (state g mid.conn) → HasCleanDisk (state g old.conn)) → FollowsAt g mid cs rs new mid.campaign
      → AreClosed cs rs × (new.campaign ≡ None) × (HasCleanDisk (state g new.conn) → LeavesGood old.world (state g old.conn).faults (state g new.conn) (text_in g old.conn) c (step old.world c x).0)
      × IsFault g (text_in g old.conn) (state g old.conn).faults old.world c x fault new.conn
      × (new.world ≡ old.world)
  ended_in_fault old mid new c x fault cs rs closes cause holds clean rest =
      let shut : mid.campaign ≡ None = ap (λ (e : ServiceValue S). e.campaign) closes.same in
      let on = subst (FollowsAt g mid cs rs new) shut rest in
      let says : IsFault g (text_in g old.conn) (state g old.conn).faults old.world c x fault mid.conn = record { old = old.conn; since = omega arith; held = λ h. holds (clean h); cause = cause } in (
        on.0,
        ap (λ (e : ServiceValue S). e.campaign) on.1 ∙ shut,
        subst (λ (e : ServiceValue S). HasCleanDisk (state g e.conn) → LeavesGood old.world (state g old.conn).faults (state g e.conn) (text_in g old.conn) c (step old.world c x).0) (sym on.1) closes.tables,
        subst (λ (e : ServiceValue S). IsFault g (text_in g old.conn) (state g old.conn).faults old.world c x fault e.conn) (sym on.1) says,
        ap (λ (e : ServiceValue S). e.world) on.1 ∙ ap (λ (e : ServiceValue S). e.world) closes.same,
      )

  -- for an open service: if its first command ran as promised, and the rest of the list is answered as promised, so is
  -- the whole list (`FollowsAt`)
  first_open : (old mid new : ServiceValue S) (c : CampaignValue) (x : Command) (a : Answer) (cs : List Command) (rs : List Answer)
      → RunsOpen g c old x a mid
      → (HasCleanDisk (state g new.conn) → HasCleanDisk (state g mid.conn))
      → IsLater (state g old.conn) (state g mid.conn) → HoldsCampaign g old.conn (text_in g old.conn) c
      → old.campaign ≡ Some c → FollowsAt g mid cs rs new mid.campaign
      → FollowsAt g old (x ∷ cs) (a ∷ rs) new (Some c)
  first_open old mid new c x (Joined n m) cs rs ran was later holds up rest = let k = carried_out old mid new c x (Joined n m) cs rs ran was later.counts rest in ((k.0, k.1), k.2)
  first_open old mid new c x (Mailed n fs) cs rs ran was later holds up rest = let k = carried_out old mid new c x (Mailed n fs) cs rs ran was later.counts rest in ((k.0, k.1), k.2)
  first_open old mid new c x (MonthDone n) cs rs ran was later holds up rest = let k = carried_out old mid new c x (MonthDone n) cs rs ran was later.counts rest in ((k.0, k.1), k.2)
  first_open old mid new c x (Text t) cs rs ran was later holds up rest = let k = carried_out old mid new c x (Text t) cs rs ran.0 was later.counts rest in ((k.0, k.1), k.2)
  first_open old mid new c x (Refused r) cs rs ran was later holds up rest =
      let same : mid ≡ old = ran.1 in
      let on = subst (FollowsAt g old cs rs new) up (subst (λ (e : ServiceValue S). FollowsAt g e cs rs new e.campaign) same rest) in
      ((ap (λ p. p.1) ran.0, subst (λ d. Follows g (text_in g old.conn) (state g old.conn).faults old.world d cs rs new) (sym (ap (λ p. p.0) ran.0)) on.0), on.1)
  first_open old mid new c x (Fault Memory) cs rs ran was later holds up rest = let k = ended_in_fault old mid new c x Memory cs rs ran.0 ran.1 holds later.clean rest in (((λ e. let d = e in cc), k.0, k.1, k.2, k.3), k.4)
  first_open old mid new c x (Fault Store) cs rs ran was later holds up rest = let k = ended_in_fault old mid new c x Store cs rs ran.0 ran.1 holds later.clean rest in (((λ e. let d = e in cc), k.0, k.1, k.2, k.3), k.4)
  first_open old mid new c x (Fault Closed) cs rs ran was later holds up rest = absurd ran

  -- for an open or a closed service: a list is answered as promised, if its first command and its rest are
  first_at : (old mid new : ServiceValue S) (x : Command) (a : Answer) (cs : List Command) (rs : List Answer) (o : Option CampaignValue)
      → old.campaign ≡ o → RunsAt g old x a mid o
      → (HasCleanDisk (state g new.conn) → HasCleanDisk (state g mid.conn))
      → IsLater (state g old.conn) (state g mid.conn) → IfSome o (λ c. HoldsCampaign g old.conn (text_in g old.conn) c)
      → FollowsAt g mid cs rs new mid.campaign
      → FollowsAt g old (x ∷ cs) (a ∷ rs) new o
  first_at old mid new x a cs rs (Some c) up ran was later holds rest =
      first_open old mid new c x a cs rs ran was later holds up rest
  first_at old mid new x a cs rs None shut ran was later holds rest =
      let on = subst (FollowsAt g old cs rs new) shut (subst (λ (e : ServiceValue S). FollowsAt g e cs rs new e.campaign) ran.1 rest) in
      ((ran.0, on.0), on.1)

  later_on : (old mid new : State) → IsLater old mid → IsLater mid new → IsLater old new
  later_on old mid new a b =
      record { clean = λ h. a.clean (b.clean h); counts = omega (arith, a.counts, b.counts); shield = λ s. b.shield (a.shield s) }

  -- In a service whose tables hold its campaign a command runs as `run` promises (`Runs`, `IsLater`). If a list after
  -- it runs as `run_all` promises (`RunsAll`), so does the list with the command in front.
  pub run_first : (old mid new : ServiceValue S) (x : Command) (a : Answer) (cs : List Command) (rs : List Answer)
      → IfSome old.campaign (λ c. HoldsCampaign g old.conn (text_in g old.conn) c) → Runs g old x a mid
      → IsLater (state g old.conn) (state g mid.conn)
      → RunsAll g mid cs rs new → RunsAll g old (x ∷ cs) (a ∷ rs) new
  run_first old mid new x a cs rs holds ran later rest = record {
    follows = first_at old mid new x a cs rs old.campaign refl ran rest.later.clean later holds rest.follows;
    each = (mid, ran, later, rest.each);
    later = later_on (state g old.conn) (state g mid.conn) (state g new.conn) later rest.later;
  }

  none_left : (now : ServiceValue S) (o : Option CampaignValue) → now.campaign ≡ o
      → IfSome o (λ c. HoldsCampaign g now.conn (text_in g now.conn) c) → FollowsAt g now [] [] now o
  none_left now (Some c) is holds = ((is, holds), refl)
  none_left now None is holds = (tt, refl)

  -- if the tables hold the campaign, an empty list, without answers, runs as promised and changes nothing (`RunsAll`)
  pub run_none : (now : ServiceValue S) → IfSome now.campaign (λ c. HoldsCampaign g now.conn (text_in g now.conn) c)
      → RunsAll g now [] [] now
  run_none now holds =
      record { follows = none_left now now.campaign refl holds; each = refl; later = record { clean = λ h. h; counts = omega arith; shield = λ s. s } }

  -- ---- the loop of `run_all`: `e` is the service before the list `cs`, `mid` that before command `i`, and `now` that
  -- after it; `sofar` are the answers before it

  -- The answers before command `i`, with any that the commands from `i` on may get, are answers to the whole list
  -- (`RunsAll`). Then so are they with the answer to command `i` added. This command is `c` and its answer `a`; the
  -- commands after it are answered with `rs`, and leave the service `new`. Command `i` must have run as promised
  -- (`Runs`, `IsLater`), in a service whose tables hold its campaign.
  pub one_more : (e mid now new : ServiceValue S) (cs : List Command) (i : ℕ) (c : Command) (a : Answer) (sofar rs : List Answer)
      → i < length cs → c ≡ get_or cs i c
      → ((ts : List Answer) (n : ServiceValue S) → RunsAll g mid (drop i cs) ts n → RunsAll g e cs (sofar ++ ts) n)
      → IfSome mid.campaign (λ d. HoldsCampaign g mid.conn (text_in g mid.conn) d) → Runs g mid c a now
      → IsLater (state g mid.conn) (state g now.conn)
      → RunsAll g now (drop (i + 1) cs) rs new → RunsAll g e cs ((sofar ++ a ∷ []) ++ rs) new
  one_more e mid now new cs i c a sofar rs h is whole holds ran later rest =
      let next : drop i cs ≡ c ∷ drop (i + 1) cs = drop_more cs i c h ∙ ap (λ x. x ∷ drop (i + 1) cs) (sym is) in
      subst (λ ts. RunsAll g e cs ts new) (sym (append_assoc sofar (a ∷ []) rs)) (whole (a ∷ rs) new (subst (λ ds. RunsAll g mid ds (a ∷ rs) new) (sym next) (run_first mid now new c a (drop (i + 1) cs) rs holds ran later rest)))

  -- All commands are done (`i` is at least their number), and the tables hold the campaign. If the answers so far, with
  -- any that the commands from `i` on may get, are answers to the whole list, so are they alone (`RunsAll`).
  pub all_done : (e now : ServiceValue S) (cs : List Command) (i : ℕ) (sofar : List Answer) → length cs ≤ i
      → ((ts : List Answer) (n : ServiceValue S) → RunsAll g now (drop i cs) ts n → RunsAll g e cs (sofar ++ ts) n)
      → IfSome now.campaign (λ c. HoldsCampaign g now.conn (text_in g now.conn) c) → RunsAll g e cs sofar now
  all_done e now cs i sofar h whole holds =
      subst (λ ts. RunsAll g e cs ts now) (append-nil sofar)
      (whole [] now (subst (λ ds. RunsAll g now ds [] now) (sym (drop_all i cs h)) (run_none now holds)))

  -- ---- the main theorem

  -- The main theorem (`Headline`) holds, or a command ended in a fault (`Interrupted`).
  abbrev Ends : List ℕ → ℕ → WorldValue → CampaignValue → List Command → List Answer → ServiceValue S → Type 0
  Ends text faults w c cs rs new = Headline g text w c cs rs new ⊎ Interrupted g text faults w c cs rs new

  all_closed : (cs : List Command) (rs : List Answer) → AreClosed cs rs → rs ≡ map (λ _. Fault Closed) cs
  all_closed [] [] h = refl
  all_closed [] (a ∷ rs) h = absurd h
  all_closed (x ∷ cs) [] h = absurd h
  all_closed (x ∷ cs) (a ∷ rs) h = ap₂ (λ b bs. b ∷ bs) h.0 (all_closed cs rs h.1)

  further : (text : List ℕ) (faults : ℕ) (w : WorldValue) (c : CampaignValue) (x : Command) (a : Answer) (cs : List Command) (rs : List Answer) (new : ServiceValue S)
      → (step w c x).1 ≡ a → Ends text faults w (step w c x).0 cs rs new
      → Ends text faults w c (x ∷ cs) (a ∷ rs) new
  further text faults w c x a cs rs new is (inl h) =
      inl
      (record { answers_are = ap₂ (λ b bs. b ∷ bs) (sym is) h.answers_are; campaign_is = h.campaign_is; tables = h.tables })
  further text faults w c x a cs rs new is (inr h) = inr (record {
    count = h.count + 1;
    command = h.command;
    at = simp unary_clauses h.at;
    within = omega (arith, h.within);
    fault = h.fault;
    first = h.first;
    answers_are = simp unary_clauses (ap₂ (λ b bs. b ∷ bs) (sym is) (simp unary_clauses at h.answers_are));
    campaign_is = h.campaign_is;
    cause = simp unary_clauses h.cause;
    tables = simp unary_clauses (simp unary_clauses at h.tables);
  })

  -- if answers follow `step` up to a fault (`Follows`), the main theorem holds of them, or a command ended in a fault
  -- (`Ends`)
  ends : (text : List ℕ) (faults : ℕ) (w : WorldValue) (c : CampaignValue) (cs : List Command) (rs : List Answer) (new : ServiceValue S)
      → Follows g text faults w c cs rs new → Ends text faults w c cs rs new
  ends text faults w c [] [] new f = inl (record { answers_are = refl; campaign_is = f.0; tables = f.1 })
  ends text faults w c [] (a ∷ rs) new f = absurd f
  ends text faults w c (x ∷ cs) [] new f = absurd f
  ends text faults w c (x ∷ cs) (Joined n m ∷ rs) new f =
      further text faults w c x (Joined n m) cs rs new f.0 (ends text faults w (step w c x).0 cs rs new f.1)
  ends text faults w c (x ∷ cs) (Mailed n fs ∷ rs) new f =
      further text faults w c x (Mailed n fs) cs rs new f.0 (ends text faults w (step w c x).0 cs rs new f.1)
  ends text faults w c (x ∷ cs) (MonthDone n ∷ rs) new f =
      further text faults w c x (MonthDone n) cs rs new f.0 (ends text faults w (step w c x).0 cs rs new f.1)
  ends text faults w c (x ∷ cs) (Text r ∷ rs) new f =
      further text faults w c x (Text r) cs rs new f.0 (ends text faults w (step w c x).0 cs rs new f.1)
  ends text faults w c (x ∷ cs) (Refused r ∷ rs) new f =
      further text faults w c x (Refused r) cs rs new f.0 (ends text faults w (step w c x).0 cs rs new f.1)
  ends text faults w c (x ∷ cs) (Fault e ∷ rs) new f = inr (record {
    count = 0;
    command = x;
    at = refl;
    within = omega arith;
    fault = e;
    first = f.0;
    answers_are = ap (λ bs. Fault e ∷ bs) (all_closed cs rs f.1);
    campaign_is = f.2;
    cause = f.4;
    tables = f.3;
  })

  headline_at : (old new : ServiceValue S) (cs : List Command) (rs : List Answer) (o : Option CampaignValue)
      → FollowsAt g old cs rs new o → HeadlineAt g old cs rs new o
  headline_at old new cs rs (Some c) f = ends (text_in g old.conn) (state g old.conn).faults old.world c cs rs new f.0
  headline_at old new cs rs None f = (all_closed cs rs f.0, f.1)

  -- the main theorem holds of a list of commands that was run (`RunsAll`), or one of them ended in a fault, or the
  -- service was closed (`HeadlineAt`)
  pub headline : (old new : ServiceValue S) (cs : List Command) (rs : List Answer) → RunsAll g old cs rs new
      → HeadlineAt g old cs rs new old.campaign
  headline old new cs rs h = headline_at old new cs rs old.campaign h.follows
