-- A hall begins with one seat and the engine at home.
use Rattle.std.proofs.Common.{◌≡◌, inr, ℕ, zero, suc, [], ◌∷◌, Some, None, refl, sym, ap, subst, ◌∙◌, arith}
use Rattle.std.specs.declared.alloc.Global.{Global}
use Rattle.std.specs.declared.boxed.Box.{Box}
use mathlib.Core.Option.{some-injective, some-ne-none}
use Rattle.plain_laws.specs.Members.{none}
use Rattle.atomic_table.specs.Table.{opening}
use Rattle.app_laws.specs.Applications.{Application}
use Rattle.run_laws.specs.Rest.{IdleIsSound, NoneRuns}
use Rattle.graph_update.specs.Engine.{EngineState, IsKept}
use Rattle.worker_gate.specs.declared.view.View.{View}
use Rattle.worker_gate.specs.Fits.{Fits, nothing_since}
use Rattle.worker_gate.specs.Hall.{AreNumbered, HallRule, IsAt, IsSeat, first_view, sum_of}
use Rattle.worker_gate.specs.Laws.{OriginsContinue}
use Rattle.worker_gate.specs.Steps.{Seen}
use Rattle.worker_gate.proofs.Places.{some_is_not_none}

module _ {S V : Type 0} (v : View S V) where
  -- the only place is the first one
  only_first : (place : ℕ) (u : View S V) → IsAt (v ∷ []) place u → (place ≡ 0) × (v ≡ u)
  only_first zero u at = (refl, some-injective v u at)
  only_first (suc place) u at = absurd (some-ne-none u (sym at))

module _ {A V : Type 0} (origin : EngineState A V) where
  one_seat : AreNumbered {V = V} origin (first_view origin ∷ [])
  one_seat = record {
    first = first_view origin;
    first_is = refl;
    first_lives = record { origin_is = refl; number_is = refl };
    count = refl;
    few = omega arith;
    seats = λ place u at.
        let only = only_first (first_view origin) place u at in
        inr (subst (λ (x : Seen A V). IsSeat origin place x) only.1 (record { origin_is = refl; number_is = sym only.0 }));
    unjoined = λ place. (
      (λ has. absurd (none place has)),
      (λ is. let above = is.0 in let only = (only_first (first_view origin) place is.1.0 is.1.1).0 in absurd (omega (arith, above, only))),
    );
    once = tt;
    no_others = λ place u at. let only = (only_first (first_view origin) (suc place) u at).0 in absurd (omega (arith, only));
  }

module _ {A V : Type 0} {meaning : A → Application V} (origin : EngineState A V) where
  pub begins : (b : Box (EngineState A V) Global) → b.value ≡ origin → Fits meaning origin origin (nothing_since origin.progress)
      → HallRule meaning origin (opening (0 ∷ []) (Some b ∷ []) (first_view origin))
  begins b is fits = record {
    word = 0;
    words = refl;
    numbered = one_seat origin;
    one_mark = λ place other u w at too marked also.
        absurd (marked (sym (ap (λ (x : Seen A V). x.over) (only_first (first_view origin) place u at).1)));
    named = λ place u at. (
      (λ has. absurd (has (sym (ap (λ (x : Seen A V). x.found) (only_first (first_view origin) place u at).1)))),
      (λ (same : 0 ≡ suc place). absurd (omega (arith, same))),
    );
    somebody = λ holder (same : 0 ≡ suc holder). absurd (omega (arith, same));
    home = λ free. (b, refl, subst (λ (e : EngineState A V). Fits meaning origin e (sum_of (first_view origin ∷ []))) (sym is) fits);
    held = λ place u engine at has. absurd (some_is_not_none engine (sym has ∙ sym (ap (λ (x : Seen A V). x.found) (only_first (first_view origin) place u at).1)));
  }

-- an engine in which nothing is running, and that has no mark, goes on from itself
pub fits_itself : {A V : Type 0} {meaning : A → Application V} → ((app : A) → IdleIsSound (meaning app)) → ((app : A) → OriginsContinue (meaning app)) → (engine : EngineState A V)
    → IsKept (meaning engine.app) engine.progress → NoneRuns engine.progress.nodes → engine.progress.over ≡ None → Fits meaning engine engine (nothing_since engine.progress)
fits_itself idle origins engine kept none_runs unmarked = record {
  app = refl;
  progress = origins engine.app engine.progress (idle engine.app engine.progress kept.jobs kept.values kept.sound none_runs) unmarked;
}
