mod Stacked
mod Sizes
mod Told
