mod Leaves
mod NextDirty
mod Regions
mod Search
mod Words
