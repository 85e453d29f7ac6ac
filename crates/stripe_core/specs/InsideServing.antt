-- Which faults are stale and which can be served, by their region and kind alone: what holds where no fault is lost.
use Rattle.std.specs.Prelude.{ℕ, Bool, ◌&&◌, ◌||◌, nat_lt}
use Rattle.page_base.specs.declared.keys.Raise.{Raise}
use Rattle.fault_queue.specs.Queues.{opens}
use Rattle.page_model.specs.Core.{Core, is_closing, is_home, free_frames}

-- the fault's region is closing
abbrev pub in_closing : Core → Raise → Bool
in_closing c p = is_closing c p.key.region

-- by region and kind: the fault is for a protected page, or can be read
abbrev pub is_ready_in : Core → ℕ → Bool → Bool
is_ready_in c region opening = opening || nat_lt 0 (free_frames c) && is_home c region

abbrev pub is_ready : Core → Raise → Bool
is_ready c p = is_ready_in c p.key.region (opens p)
